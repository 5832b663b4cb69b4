-- The turned machine accepts by each pair what the machine does. Assumes nothing.
use Rattle.std.proofs.Common.{◌≡◌, ℕ, zero, suc, ◌+◌, ◌-◌, ◌<◌, ◌≤◌, Bool, true, false, cond, ◌&&◌, eqb, ltb, ◌≢◌, List, length, get_or, sym, refl, ap, ◌∙◌, subst, arith, length-set, get_or-set_other, get_or-set_same}
use native.Mathlib.Decide.{dec_lt}
use lib.ListN.{get_or-replicate}
use Rattle.std.proofs.lemmas.Bool.Decides.{nat_tests}
use Rattle.ltl.specs.Words.{Word}
use Rattle.machine.specs.Machines.{Pairs, Machine}
use Rattle.machine.specs.Runs.{run, Infinitely, AcceptedBy}
use Rattle.turning.specs.declared.TurnedState.{TurnedState}
use Rattle.turning.specs.Turns.{next_turn, next_turns, turned_pairs, is_last_met, turned}
use Rattle.turning.specs.Laws.{KeepsAcceptance, KeepsFirstPair, KeepsLimits, PlainPairs}
use Rattle.turning.proofs.Cyclic.{is_last_met_lem, each_met}

module _ {S : Type 0} (pairs : Pairs S) (s : S) (turns : List ℕ) where
  -- moving turns keeps their number
  pub turns_length : (n : ℕ) → length (next_turns pairs s turns n) ≡ length turns
  turns_length zero = refl
  turns_length (suc n) = length-set (next_turns pairs s turns n) n _ ∙ turns_length n

  -- the turn of a pair that is reached is moved once
  pub turn_at : (n p : ℕ) → p < n → p < length turns → get_or (next_turns pairs s turns n) p 0 ≡ next_turn pairs p s (get_or turns p 0)
  turn_at zero p h l = let z : ⊥ = omega arith in absurd z
  turn_at (suc n) p h l = elim (dec_lt p n) [
    | yes u ↦ let ne : p ≢ n = omega arith in get_or-set_other (next_turns pairs s turns n) n p _ 0 ne ∙ turn_at n p u l
    | no u ↦
        let e : p ≡ n = omega arith in
        let f : n < length (next_turns pairs s turns n) = omega (arith, turns_length n) in
        subst (λ x. get_or (next_turns pairs s turns (suc n)) x 0 ≡ next_turn pairs x s (get_or turns x 0)) (sym e)
        (get_or-set_same (next_turns pairs s turns n) n _ 0 f)
  ]

module _ {S : Type 0} (m : Machine S) (w : Word) where
  -- the turned run goes through the machine's states
  pub inner_run : (i : ℕ) → (run (turned m).course w i).inner ≡ run m.course w i
  inner_run zero = refl
  inner_run (suc i) = ap (λ s. m.course.next s (w i)) (inner_run i)

  -- there are always 16 turns
  pub sixteen : (i : ℕ) → length (run (turned m).course w i).turns ≡ 16
  sixteen zero = refl
  sixteen (suc i) = turns_length m.pairs _ _ m.pairs.count ∙ sixteen i

  module _ (few : m.pairs.count ≤ 16) (p : ℕ) (pair : p < m.pairs.count) where
    -- a pair's turn after i letters
    abbrev pub turn : ℕ → ℕ
    turn i = get_or (run (turned m).course w i).turns p 0

    -- whether a pair's set is met after i letters
    abbrev pub met : ℕ → ℕ → Bool
    met j i = m.pairs.visited p j (run m.course w i)

    -- every turn is 0 at first
    pub turn_first : turn 0 ≡ 0
    turn_first = get_or-replicate 16 p 0 0 (omega arith)

    -- the turn is moved by the state that is left
    pub turn_moves : (i : ℕ) → turn (suc i) ≡ cond (met (turn i) i) (cond (ltb (turn i + 1) (m.pairs.visits p)) (turn i + 1) 0) (turn i)
    turn_moves i =
        let l : p < length (run (turned m).course w i).turns = omega (arith, sixteen i) in
        turn_at m.pairs _ _ m.pairs.count p pair l ∙ ap (λ s. next_turn m.pairs p s (turn i)) (inner_run i)

module _ {S : Type 0} (pairs : Pairs S) (p : ℕ) where
  -- a pair of the turned machine has one visit set
  pub one_set : (j : ℕ) → p < pairs.count → j < (turned_pairs pairs).visits p → j ≡ 0
  one_set j h l = grind (arith, nat_tests)

  -- which is the last of its sets, met in its turn
  pub its_set : (s : TurnedState S) → p < pairs.count → (turned_pairs pairs).visited p 0 s ≡ is_last_met pairs p s.inner (get_or s.turns p 0)
  its_set s h = ap (λ b. cond (b && eqb 0 0) (is_last_met pairs p s.inner (get_or s.turns p 0)) false) (let t : ltb p pairs.count ≡ true = grind (arith, nat_tests) in t)

  -- every state, where the pair has no sets
  pub met_free : (s : S) (turn : ℕ) → pairs.visits p ≡ 0 → is_last_met pairs p s turn ≡ true
  met_free s turn h = grind (arith, nat_tests)

  -- what a meeting tells, where it has some
  pub met_told : (s : S) (turn : ℕ) → 0 < pairs.visits p → is_last_met pairs p s turn ≡ true →
      (turn ≡ pairs.visits p - 1) × (pairs.visited p (pairs.visits p - 1) s ≡ true)
  met_told s turn h t = (grind (arith, nat_tests), grind (arith, nat_tests))

  -- and what tells a meeting
  pub met_tells : (s : S) (turn : ℕ) → turn ≡ pairs.visits p - 1 → pairs.visited p (pairs.visits p - 1) s ≡ true → is_last_met pairs p s turn ≡ true
  met_tells s turn e t = grind (arith, nat_tests)

module _ {S : Type 0} (m : Machine S) (few : m.pairs.count ≤ 16) (w : Word) (p : ℕ) where
  -- the one visit set is met again and again where each of the machine's is
  pub meets_one : p < m.pairs.count → ((j : ℕ) → j < m.pairs.visits p → Infinitely (m.pairs.visited p j) (run m.course w)) →
      Infinitely (λ s. is_last_met m.pairs p s.inner (get_or s.turns p 0)) (run (turned m).course w)
  meets_one pair all n = elim (dec_lt 0 (m.pairs.visits p)) [
    | yes pos ↦
        let r = is_last_met_lem (m.pairs.visits p) (turn m w few p pair) (met m w few p pair) (turn_moves m w few p pair) pos (turn_first m w few p pair) all n in
        (r.0, r.1, met_tells m.pairs p _ _ r.2 (ap (m.pairs.visited p (m.pairs.visits p - 1)) (inner_run m w r.0) ∙ r.3))
    | no h ↦ let z : m.pairs.visits p ≡ 0 = omega arith in (n, omega arith, met_free m.pairs p _ _ z)
  ]

  -- each of the machine's visit sets is met again and again where the one is
  pub meets_each : p < m.pairs.count → Infinitely (λ s. is_last_met m.pairs p s.inner (get_or s.turns p 0)) (run (turned m).course w) →
      (j : ℕ) → j < m.pairs.visits p → Infinitely (m.pairs.visited p j) (run m.course w)
  meets_each pair one j h =
      let pos : 0 < m.pairs.visits p = omega arith in
      each_met (m.pairs.visits p) (turn m w few p pair) (met m w few p pair) (turn_moves m w few p pair) pos
      (λ n. let r = one n in let t = met_told m.pairs p _ _ pos r.2 in
      (r.0, r.1, t.0, ap (m.pairs.visited p (m.pairs.visits p - 1)) (sym (inner_run m w r.0)) ∙ t.1)) j h

  -- what the machine's pair accepts, the turned one's does
  pub turned_accepts : AcceptedBy m w p → AcceptedBy (turned m) w p
  turned_accepts a = record {
    pair = a.pair;
    avoids = (a.avoids.0, λ i h. ap (m.pairs.avoids p) (inner_run m w i) ∙ a.avoids.1 i h);
    visits = λ j h n.
        let e = one_set m.pairs p j a.pair h in
        let r = meets_one a.pair a.visits n in
        (r.0, r.1, ap (λ x. (turned m).pairs.visited p x (run (turned m).course w r.0)) e ∙ its_set m.pairs p _ a.pair ∙ r.2);
  }

  -- and what the turned one's accepts, the machine's does
  pub machine_accepts : AcceptedBy (turned m) w p → AcceptedBy m w p
  machine_accepts a = record {
    pair = a.pair;
    avoids = (a.avoids.0, λ i h. ap (m.pairs.avoids p) (sym (inner_run m w i)) ∙ a.avoids.1 i h);
    visits = meets_each a.pair (λ n.
        let l : 0 < (turned m).pairs.visits p = let b = a.pair in grind (arith, nat_tests) in
        let r = a.visits 0 l n in
        (r.0, r.1, sym (its_set m.pairs p _ a.pair) ∙ r.2));
  }

-- a pair of the turned machine accepts exactly what the machine's does
pub keeps_acceptance : {S : Type 0} → KeepsAcceptance S
keeps_acceptance m few w p = (machine_accepts m few w p, turned_accepts m few w p)

-- so the first accepting pair is the same
pub keeps_first : {S : Type 0} → KeepsFirstPair S
keeps_first m few w p = (
  λ f. (machine_accepts m few w p f.0, λ q h a. f.1 q h (turned_accepts m few w q a)),
  λ f. (turned_accepts m few w p f.0, λ q h a. f.1 q h (machine_accepts m few w q a)),
)

-- each pair of the turned machine has one visit set
pub plain_pairs : {S : Type 0} → PlainPairs S
plain_pairs m p h = grind (arith, nat_tests)

-- the turned machine keeps the limits
pub keeps_limits : {S : Type 0} → KeepsLimits S
keeps_limits m l = record {
  few_names = l.few_names;
  low_bits = λ s a. ap (λ x. record { inner = x; turns = next_turns m.pairs s.inner s.turns m.pairs.count }) (l.low_bits s.inner a);
  few_pairs = l.few_pairs;
  few_visits = λ p. grind (arith, nat_tests);
  no_pair = λ p s h. l.no_pair p s.inner h;
  no_visits = λ p h. grind (arith, nat_tests);
  no_set = λ p j s h. grind (arith, nat_tests);
}
