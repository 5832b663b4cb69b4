-- The stretch between two equal states at cycles' ends tells what a run meets for ever. Assumes nothing.
use Rattle.std.proofs.Common.{◌≡◌, ℕ, zero, suc, ◌+◌, ◌-◌, ◌*◌, ◌/◌, ◌%◌, ◌<◌, ◌≤◌, Bool, true, false, cond, ltb, ◌↔◌, List, [], ◌∷◌, length, Ok, Result, sym, refl, ap, ◌∙◌, ap₂, suc-mul, add-mul, mul-pos, div-add-mod', zero-mul, le-mul_of_pos_right, arith}
use Rattle.refusal.specs.declared.Layer.TheVariants.{Round}
use Rattle.refusal.specs.Answers.{Said, refused}
use Rattle.round.specs.Letters.{sound}
use Rattle.ltl.specs.Words.{Word}
use Rattle.ltl.specs.Rounds.{spelling, Repeats}
use Rattle.ltl.proofs.RoundWords.{rounds_repeat}
use Rattle.ltl.proofs.Truth.{repeat_many}
use Rattle.machine.specs.Machines.{Course, Machine}
use Rattle.machine.specs.Runs.{run, Finitely, Infinitely, AcceptedBy}
use Rattle.machine.specs.Judging.{bound}
use Rattle.machine.specs.Laws.{Looping}
use Rattle.machine.proofs.Single.{clash}

-- the cycle of a sound round is not empty
pub sound_cycle : (names : ℕ) (lead cycle : List ℕ) → sound names lead cycle ≡ Ok tt → 0 < length cycle
sound_cycle names lead [] e = absurd (go (ltb 1024 (length lead + 0)) e)
  where
    go : (b : Bool) → cond {A = Result (Unit {0}) Said} b (refused 11 Round 0) (refused 10 Round 0) ≡ Ok tt → ⊥
    go true e = clash _ _ refl e
    go false e = clash _ _ refl e
sound_cycle names lead (a ∷ cycle) e = omega arith

-- where a word repeats and a run is after d letters where it was, it is so at every later position
pub run_again : {S : Type 0} (c : Course S) (w : Word) (start a d : ℕ) →
    start ≤ a → Repeats w start d → run c w (a + d) ≡ run c w a → (i : ℕ) → a ≤ i → run c w (i + d) ≡ run c w i
run_again {S} c w start a d h r e i l = ap (run c w) (omega arith) ∙ go (i - a) ∙ ap (run c w) (omega arith)
  where
    go : (t : ℕ) → run c w (t + (a + d)) ≡ run c w (t + a)
    go zero = ap (run c w) (omega arith) ∙ e ∙ ap (run c w) (omega arith)
    go (suc t) =
        let letter : w (t + (a + d)) ≡ w (t + a) = ap w (omega arith) ∙ r (t + a) (omega arith) in
        let p : suc t + (a + d) ≡ suc (t + (a + d)) = omega arith in
        let q : suc (t + a) ≡ suc t + a = omega arith in
        ap (run c w) p ∙ ap₂ c.next (go t) letter ∙ ap (run c w) q

-- states that from start on come back after each period
module _ {S : Type 0} (xs : ℕ → S) (start period : ℕ) (again : (i : ℕ) → start ≤ i → xs (i + period) ≡ xs i) where
  -- they come back after any number of periods
  pub states_later : (n i : ℕ) → start ≤ i → xs (i + n * period) ≡ xs i
  states_later zero i h = ap xs (omega (arith, zero-mul period))
  states_later (suc n) i h = ap xs (omega (arith, suc-mul n period)) ∙ again (i + n * period) (omega arith) ∙ states_later n i h

  -- a state is the one at the place of the first period where its position falls
  pub states_window : (i : ℕ) → start ≤ i → xs i ≡ xs (start + (i - start) % period)
  states_window i h =
      let n = (i - start) / period in
      let e : i ≡ start + (i - start) % period + n * period = omega (arith, div-add-mod' (i - start) period) in
      ap xs e ∙ states_later n (start + (i - start) % period) (omega arith)

  module _ (stop : ℕ) (pos : 0 < period) (ends : stop ≡ start + period) (test : S → Bool) where
    -- a set met only finitely often is not met in the first period
    pub stretch_finite : Finitely test xs → (i : ℕ) → start ≤ i → i < stop → test (xs i) ≡ false
    stretch_finite f i h l = ap test (sym (states_later f.0 i h)) ∙ f.1 (i + f.0 * period) (omega (arith, le-mul_of_pos_right f.0 pos))

    -- a set not met in the first period is met only finitely often
    pub stretch_finite_back : ((i : ℕ) → start ≤ i → i < stop → test (xs i) ≡ false) → Finitely test xs
    stretch_finite_back f = (start, λ i h. ap test (states_window i h) ∙ f (start + (i - start) % period) (omega arith) (omega arith))

    -- a set met infinitely often is met in the first period
    pub stretch_infinite : Infinitely test xs → (i : ℕ) × (start ≤ i) × (i < stop) × (test (xs i) ≡ true)
    stretch_infinite f =
        let i = f start in
        (start + (i.0 - start) % period, omega arith, omega arith, ap test (sym (states_window i.0 i.1)) ∙ i.2)

    -- a set met in the first period is met infinitely often
    pub stretch_infinite_back : (i : ℕ) → start ≤ i → i < stop → test (xs i) ≡ true → Infinitely test xs
    stretch_infinite_back i h l t n = (i + n * period, omega (arith, le-mul_of_pos_right n pos), ap test (states_later n i h) ∙ t)

-- where a state recurs, the stretch between decides what is met for ever
pub looping : {S : Type 0} → Looping S
looping {S} m lead cycle pos j k up e test =
    record {
      finite = stretch_finite xs a d again b p q test;
      finite_back = stretch_finite_back xs a d again b p q test;
      infinite = stretch_infinite xs a d again b p q test;
      infinite_back = stretch_infinite_back xs a d again b p q test;
    }
  where
    xs : ℕ → S
    xs = run m.course (spelling lead cycle)

    a : ℕ
    a = length lead + j * length cycle

    b : ℕ
    b = length lead + k * length cycle

    d : ℕ
    d = (k - j) * length cycle

    p : 0 < d
    p = let h : 0 < k - j = omega arith in mul-pos h pos

    q : b ≡ a + d
    q = let h : k ≡ j + (k - j) = omega arith in omega (arith, ap (λ x. x * length cycle) h, add-mul j (k - j) (length cycle))

    again : (i : ℕ) → a ≤ i → xs (i + d) ≡ xs i
    again = run_again m.course (spelling lead cycle) (length lead) a d (omega arith)
        (repeat_many (spelling lead cycle) (length lead) (length cycle) (rounds_repeat lead cycle pos) (k - j)) (ap xs (sym q) ∙ sym e)

-- the stretch from cycle end j to cycle end k is in favour of pair p: nothing to avoid, and of each visit set a state
pub record Favours {S : Type 0} (m : Machine S) (lead cycle : List ℕ) (j k p : ℕ) : Type 0 where
  pub pair : p < m.pairs.count
  pub avoids : (i : ℕ) → length lead + j * length cycle ≤ i → i < length lead + k * length cycle →
      m.pairs.avoids p (run m.course (spelling lead cycle) i) ≡ false
  pub visits : (q : ℕ) → q < m.pairs.visits p →
      (i : ℕ) × (length lead + j * length cycle ≤ i) × (i < length lead + k * length cycle) × (m.pairs.visited p q (run m.course (spelling lead cycle) i) ≡ true)

-- where a state recurs, a pair accepts exactly when the stretch between is in its favour
pub decided_pair : {S : Type 0} (m : Machine S) (lead cycle : List ℕ) → 0 < length cycle → (j k : ℕ) → j < k →
    bound m lead cycle j ≡ bound m lead cycle k → (p : ℕ) → AcceptedBy m (spelling lead cycle) p ↔ Favours m lead cycle j k p
decided_pair {S} m lead cycle pos j k up e p = (told, tells)
  where
    told : AcceptedBy m (spelling lead cycle) p → Favours m lead cycle j k p
    told a = record {
      pair = a.pair;
      avoids = (looping m lead cycle pos j k up e (m.pairs.avoids p)).finite a.avoids;
      visits = λ q h. (looping m lead cycle pos j k up e (m.pairs.visited p q)).infinite (a.visits q h);
    }

    tells : Favours m lead cycle j k p → AcceptedBy m (spelling lead cycle) p
    tells f = record {
      pair = f.pair;
      avoids = (looping m lead cycle pos j k up e (m.pairs.avoids p)).finite_back f.avoids;
      visits = λ q h. let i = f.visits q h in (looping m lead cycle pos j k up e (m.pairs.visited p q)).infinite_back i.0 i.1 i.2 i.3;
    }
