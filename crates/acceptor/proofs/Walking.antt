-- Walks, step by step, and tests over the numbers below a bound. Assumes nothing.
use Rattle.std.proofs.Common.{◌≡◌, ℕ, zero, suc, ◌+◌, ◌<◌, ◌≤◌, Bool, true, false, not, ◌&&◌, ◌||◌, ◌⊎◌, List, [], ◌∷◌, length, get_or, take, fold, find, cond, Some, None, Option, MatchOption, sym, refl, ap, ◌∙◌, subst, add-one, arith}
use mathlib.Core.Logic.◌⊎◌.{inl, inr}
use native.Mathlib.Decide.{dec_lt}
use Rattle.std.proofs.lemmas.Bool.{or_cases, or_left, or_right, or_from, and_parts, and_from}
use Rattle.std.proofs.Math.Bool.{and_assoc, or_assoc}
use Rattle.std.proofs.Math.Seq.{take-length}
use Rattle.std.proofs.lemmas.List.Sums.{fold_more}
use Rattle.std.specs.List.{list_all, range_with_len}
use Rattle.machine.specs.Machines.{Course, Machine}
use Rattle.acceptor.specs.Walks.{along, turned, some, all, cycle_meets, meets, favours, NoneBelow, FirstBelow, Crossed, Toured}

-- one letter more
pub along_more : {S : Type 0} (c : Course S) (s : S) (letters : List ℕ) (i : ℕ) →
    along c s letters (i + 1) ≡ c.next (along c s letters i) (get_or letters i 0)
along_more c s letters i = ap (along c s letters) (add-one i)

-- a state reached so far, and the next
pub next_letter : {S : Type 0} (c : Course S) (s : S) (letters : List ℕ) (i : ℕ) {state next : S} →
    state ≡ along c s letters i → next ≡ c.next state (get_or letters i 0) → next ≡ along c s letters (i + 1)
next_letter c s letters i e n = n ∙ ap (λ x. c.next x (get_or letters i 0)) e ∙ sym (along_more c s letters i)

-- one cycle more
pub turned_more : {S : Type 0} (c : Course S) (s : S) (cycle : List ℕ) (k : ℕ) →
    turned c s cycle (k + 1) ≡ along c (turned c s cycle k) cycle (length cycle)
turned_more c s cycle k = ap (turned c s cycle) (add-one k)

-- the state after all the letters
pub along_fold : {S : Type 0} (c : Course S) (s : S) (letters : List ℕ) → fold c.next s letters ≡ along c s letters (length letters)
along_fold c s letters = ap (fold c.next s) (sym (take-length letters)) ∙ go (length letters) (omega arith)
  where
    go : (n : ℕ) → n ≤ length letters → fold c.next s (take n letters) ≡ along c s letters n
    go zero h = refl
    go (suc n) h =
        ap (λ i. fold c.next s (take i letters)) (sym (add-one n)) ∙ fold_more c.next s letters n 0 h
        ∙ ap (λ x. c.next x (get_or letters n 0)) (go n (omega arith))

-- a state at a cycle's end, and the next
pub next_cycle : {S : Type 0} (c : Course S) (s : S) (cycle : List ℕ) (k : ℕ) {state next : S} →
    state ≡ turned c s cycle k → next ≡ along c state cycle (length cycle) → next ≡ turned c s cycle (k + 1)
next_cycle c s cycle k e n = n ∙ ap (λ x. along c x cycle (length cycle)) e ∙ sym (turned_more c s cycle k)

module _ (test : ℕ → Bool) where
  -- one number more
  pub some_more : (n : ℕ) → some test (n + 1) ≡ (some test n || test n)
  some_more n = ap (some test) (add-one n)

  -- none so far, and not here
  pub none_more : (n : ℕ) → some test n ≡ false → test n ≡ false → some test (n + 1) ≡ false
  none_more n e h = some_more n ∙ or_from (some test n) (test n) e h

  -- a mark that was set before or by some number so far, marked once more
  pub mark_more : (n : ℕ) (before : Bool) {sofar mark seen : Bool} →
      sofar ≡ (before || some test n) → mark ≡ (sofar || seen) → seen ≡ test n → mark ≡ (before || some test (n + 1))
  mark_more n before e h s = let m = or_assoc before (some test n) (test n) in let o = some_more n in cc

  -- where some number passes, one does
  pub some_found : (n : ℕ) → some test n ≡ true → (k : ℕ) × (k < n) × (test k ≡ true)
  some_found zero e = let z : ◌≡◌ {A = ℕ} 0 1 = cc in let no : ⊥ = omega arith in absurd no
  some_found (suc n) e = go (some_found n) (or_cases (some test n) (test n) e)
    where
      go : (some test n ≡ true → (k : ℕ) × (k < n) × (test k ≡ true)) → (some test n ≡ true) ⊎ (test n ≡ true) →
          (k : ℕ) × (k < suc n) × (test k ≡ true)
      go below (inl h) = let f = below h in (f.0, omega arith, f.2)
      go below (inr h) = (n, omega arith, h)

  -- where one passes, some number does
  pub some_at : (n k : ℕ) → k < n → test k ≡ true → some test n ≡ true
  some_at zero k h e = let no : ⊥ = omega arith in absurd no
  some_at (suc n) k h e = elim (dec_lt k n) [
    | yes l ↦ or_left (some test n) (test n) (some_at n k l e)
    | no l ↦ let same : k ≡ n = omega arith in or_right (some test n) (test n) (subst (λ x. test x ≡ true) same e)
  ]

  -- where all pass, each does
  pub all_each : (n : ℕ) → all test n ≡ true → (k : ℕ) → k < n → test k ≡ true
  all_each zero e k h = let no : ⊥ = omega arith in absurd no
  all_each (suc n) e k h = elim (dec_lt k n) [
    | yes l ↦ all_each n (and_parts (all test n) (test n) e).0 k l
    | no l ↦ let same : n ≡ k = omega arith in subst (λ x. test x ≡ true) same (and_parts (all test n) (test n) e).1
  ]

  -- where each passes, all do
  pub each_all : (n : ℕ) → ((k : ℕ) → k < n → test k ≡ true) → all test n ≡ true
  each_all zero f = refl
  each_all (suc n) f = and_from (all test n) (test n) (each_all n (λ k h. f k (omega arith))) (f n (omega arith))

-- the first number's test, and the others'
pub all_front : (test : ℕ → Bool) (n : ℕ) → all test (suc n) ≡ (test 0 && all (λ k. test (suc k)) n)
all_front test zero = grind arith
all_front test (suc n) = let e = all_front test n in let a = and_assoc (test 0) (all (λ k. test (suc k)) n) (test (suc n)) in cc

-- the first number from a on that passes
pub found_from : (test : ℕ → Bool) (a n : ℕ) → MatchOption (find test (range_with_len a n))
    ((i : ℕ) → a ≤ i → i < a + n → test i ≡ false)
    (λ k. (a ≤ k) × (k < a + n) × (test k ≡ true) × ((i : ℕ) → a ≤ i → i < k → test i ≡ false))
found_from test a zero = λ i l h. let no : ⊥ = omega arith in absurd no
found_from test a (suc n) = go (test a) refl (find test (range_with_len (a + 1) n)) (found_from test (a + 1) n)
  where
    sooner : {k : ℕ} → test a ≡ false → ((i : ℕ) → a + 1 ≤ i → i < k → test i ≡ false) → (i : ℕ) → a ≤ i → i < k → test i ≡ false
    sooner e rest i l h = elim (dec_lt a i) [
      | yes m ↦ rest i (omega arith) h
      | no m ↦ let same : a ≡ i = omega arith in subst (λ x. test x ≡ false) same e
    ]

    go : (b : Bool) → test a ≡ b → (o : Option ℕ) → MatchOption o
        ((i : ℕ) → a + 1 ≤ i → i < a + 1 + n → test i ≡ false)
        (λ k. (a + 1 ≤ k) × (k < a + 1 + n) × (test k ≡ true) × ((i : ℕ) → a + 1 ≤ i → i < k → test i ≡ false)) →
        MatchOption (cond b (Some a) o)
        ((i : ℕ) → a ≤ i → i < a + suc n → test i ≡ false)
        (λ k. (a ≤ k) × (k < a + suc n) × (test k ≡ true) × ((i : ℕ) → a ≤ i → i < k → test i ≡ false))
    go true e o rest = (omega arith, omega arith, e, λ i l h. let no : ⊥ = omega arith in absurd no)
    go false e None rest = λ i l h. sooner {k = a + suc n} e (λ j m r. rest j m (omega arith)) i l h
    go false e (Some k) rest = (omega arith, omega arith, rest.2, sooner e rest.3)

-- the first number below n that passes, where there is one
pub found_first : (test : ℕ → Bool) (n : ℕ) (o : Option ℕ) → o ≡ find test (range_with_len 0 n) →
    MatchOption o (NoneBelow test n) (FirstBelow test n)
found_first test n o e = go o (subst (λ x. MatchOption x ((i : ℕ) → 0 ≤ i → i < 0 + n → test i ≡ false)
    (λ k. (0 ≤ k) × (k < 0 + n) × (test k ≡ true) × ((i : ℕ) → 0 ≤ i → i < k → test i ≡ false))) (sym e) (found_from test 0 n))
  where
    go : (x : Option ℕ) → MatchOption x ((i : ℕ) → 0 ≤ i → i < 0 + n → test i ≡ false)
        (λ k. (0 ≤ k) × (k < 0 + n) × (test k ≡ true) × ((i : ℕ) → 0 ≤ i → i < k → test i ≡ false)) →
        MatchOption x (NoneBelow test n) (FirstBelow test n)
    go None f = λ i h. f i (omega arith) (omega arith)
    go (Some k) f = record { inside = omega arith; passes = f.2; first = λ i h. f.3 i (omega arith) h }

-- tests that agree below the bound
pub all_same : (p q : ℕ → Bool) (n : ℕ) → ((k : ℕ) → k < n → p k ≡ q k) → all p n ≡ all q n
all_same p q zero f = refl
all_same p q (suc n) f = let e = all_same p q n (λ k h. f k (omega arith)) in let h = f n (omega arith) in cc

-- the marks are all set exactly when each is
pub all_marked : (met : List Bool) → list_all (λ mark. mark) met ≡ all (λ set. get_or met set false) (length met)
all_marked [] = refl
all_marked (b ∷ met) = ap (λ c. b && c) (all_marked met) ∙ sym (all_front (λ set. get_or (b ∷ met) set false) (length met))

module _ {S : Type 0} (m : Machine S) (s : S) (cycle : List ℕ) (n pair : ℕ) where
  -- cycles that meet what a pair avoids are not in its favour
  pub met_not_favours : meets m.course s cycle (m.pairs.avoids pair) n ≡ true → favours m s cycle n pair ≡ false
  met_not_favours e = ap (λ b. not b && all (λ set. meets m.course s cycle (m.pairs.visited pair set) n) (m.pairs.visits pair)) e

  -- cycles walked to their end are, where each visit set is marked
  pub toured_favours : {met : List Bool} {end : S} → length met ≡ m.pairs.visits pair → Toured m pair s cycle n met end →
      list_all (λ mark. mark) met ≡ favours m s cycle n pair
  toured_favours {met} long t =
      all_marked met
      ∙ all_same (λ set. get_or met set false) (λ set. meets m.course s cycle (m.pairs.visited pair set) n) (length met) t.notes
      ∙ ap (all (λ set. meets m.course s cycle (m.pairs.visited pair set) n)) long
      ∙ ap (λ b. not b && all (λ set. meets m.course s cycle (m.pairs.visited pair set) n) (m.pairs.visits pair)) (sym t.clear)

-- a walk over a cycle, letter by letter
module _ {S : Type 0} (m : Machine S) (pair : ℕ) (s : S) (cycle : List ℕ) (n : ℕ) {before met : List Bool} {state : S}
    (sofar : Crossed m pair s cycle n before met state) where
  -- a state to be avoided is met on the cycle
  pub crossed_meets : n < length cycle → m.pairs.avoids pair state ≡ true → cycle_meets m.course s cycle (m.pairs.avoids pair) ≡ true
  crossed_meets h e =
      some_at (λ i. m.pairs.avoids pair (along m.course s cycle i)) (length cycle) n h (ap (m.pairs.avoids pair) (sym sofar.arrives) ∙ e)

  -- one letter more
  pub crossed_more : {after : List Bool} {next : S} → length met ≡ length before → m.pairs.avoids pair state ≡ false →
      ((set : ℕ) → set < length met → get_or after set false ≡ (get_or met set false || m.pairs.visited pair set state)) →
      next ≡ m.course.next state (get_or cycle n 0) → Crossed m pair s cycle (n + 1) before after next
  crossed_more long clear notes next = record {
    clear = none_more (λ i. m.pairs.avoids pair (along m.course s cycle i)) n sofar.clear (ap (m.pairs.avoids pair) (sym sofar.arrives) ∙ clear);
    arrives = next_letter m.course s cycle n sofar.arrives next;
    notes = λ set h. mark_more (λ i. m.pairs.visited pair set (along m.course s cycle i)) n (get_or before set false)
        (sofar.notes set h) (notes set (omega arith)) (ap (m.pairs.visited pair set) sofar.arrives);
  }

-- a walk over cycles, one by one
module _ {S : Type 0} (m : Machine S) (pair : ℕ) (s : S) (cycle : List ℕ) (n : ℕ) {met : List Bool} {state : S}
    (sofar : Toured m pair s cycle n met state) where
  -- a cycle that meets what a pair avoids is not in its favour, nor are all of them
  pub toured_meets : (cycles : ℕ) → n < cycles → cycle_meets m.course state cycle (m.pairs.avoids pair) ≡ true → favours m s cycle cycles pair ≡ false
  toured_meets cycles h e =
      met_not_favours m s cycle cycles pair
      (some_at (λ t. cycle_meets m.course (turned m.course s cycle t) cycle (m.pairs.avoids pair)) cycles n h
      (ap (λ x. cycle_meets m.course x cycle (m.pairs.avoids pair)) (sym sofar.arrives) ∙ e))

  -- one cycle more
  pub toured_more : {after : List Bool} {end : S} → length after ≡ length met → Crossed m pair state cycle (length cycle) met after end →
      Toured m pair s cycle (n + 1) after end
  toured_more long crossed = record {
    clear = none_more (λ t. cycle_meets m.course (turned m.course s cycle t) cycle (m.pairs.avoids pair)) n sofar.clear
        (ap (λ x. cycle_meets m.course x cycle (m.pairs.avoids pair)) (sym sofar.arrives) ∙ crossed.clear);
    arrives = next_cycle m.course s cycle n sofar.arrives crossed.arrives;
    notes = λ set h. mark_more (λ t. cycle_meets m.course (turned m.course s cycle t) cycle (m.pairs.visited pair set)) n false
        (sofar.notes set (omega arith)) (crossed.notes set (omega arith)) (ap (λ x. cycle_meets m.course x cycle (m.pairs.visited pair set)) sofar.arrives);
  }
