-- Walks over a round's letters are stretches of its run. Assumes nothing.
use Rattle.std.proofs.Common.{◌≡◌, ℕ, zero, suc, ◌+◌, ◌-◌, ◌*◌, ◌/◌, ◌%◌, ◌<◌, ◌≤◌, Bool, true, false, List, length, get_or, sym, refl, ap, ◌∙◌, ap₂, mul-le-mul_right, suc-mul, add-mul, div-add-mod', zero-mul, arith}
use mathlib.Core.Logic.◌⊎◌.{inl, inr}
use Rattle.std.proofs.lemmas.Nat.{div_below}
use Rattle.std.proofs.lemmas.Bool.{cases_Bool, both_ways}
use Rattle.ltl.specs.Words.{Word}
use Rattle.ltl.specs.Rounds.{spelling}
use Rattle.ltl.proofs.RoundWords.{spelling_lead, spelling_cycle, rounds_repeat}
use Rattle.ltl.proofs.Truth.{repeat_many}
use Rattle.machine.specs.Machines.{Course}
use Rattle.machine.specs.Runs.{run}
use Rattle.acceptor.specs.Walks.{along, turned, meets, cycle_meets}
use Rattle.acceptor.proofs.Walking.{some_found, some_at}

-- a walk over letters that a word has from position a on is that part of the run
pub along_run : {S : Type 0} (c : Course S) (w : Word) (a : ℕ) (s : S) (letters : List ℕ) (n : ℕ) →
    s ≡ run c w a → ((i : ℕ) → i < n → w (a + i) ≡ get_or letters i 0) → along c s letters n ≡ run c w (a + n)
along_run c w a s letters zero e read = e ∙ ap (run c w) (omega arith)
along_run c w a s letters (suc n) e read =
    let p : suc (a + n) ≡ a + suc n = omega arith in
    ap₂ c.next (along_run c w a s letters n e (λ i h. read i (omega arith))) (sym (read n (omega arith))) ∙ ap (run c w) p

module _ {S : Type 0} (c : Course S) (lead cycle : List ℕ) where
  -- the lead-in leads to where the first cycle begins
  pub lead_run : along c c.start lead (length lead) ≡ run c (spelling lead cycle) (length lead + 0 * length cycle)
  lead_run =
      let p : 0 + length lead ≡ length lead + 0 * length cycle = omega (arith, zero-mul (length cycle)) in
      along_run c (spelling lead cycle) 0 c.start lead (length lead) refl
      (λ i h. ap (spelling lead cycle) (omega arith) ∙ spelling_lead lead cycle i h)
      ∙ ap (run c (spelling lead cycle)) p

  module _ (pos : 0 < length cycle) where
    -- the letters of cycle j
    pub cycle_letters : (j i : ℕ) → i < length cycle → spelling lead cycle (length lead + j * length cycle + i) ≡ get_or cycle i 0
    cycle_letters j i h =
        let p : length lead + j * length cycle + i ≡ length lead + i + j * length cycle = omega arith in
        ap (spelling lead cycle) p
        ∙ repeat_many (spelling lead cycle) (length lead) (length cycle) (rounds_repeat lead cycle pos) j (length lead + i) (omega arith)
        ∙ spelling_cycle lead cycle i h

    module _ (j : ℕ) (s : S) (e : s ≡ run c (spelling lead cycle) (length lead + j * length cycle)) where
      -- after t cycles from the start of cycle j the run is at the start of cycle j + t
      pub turned_run : (t : ℕ) → turned c s cycle t ≡ run c (spelling lead cycle) (length lead + (j + t) * length cycle)
      turned_run zero = let p : j ≡ j + 0 = omega arith in e ∙ ap (λ x. run c (spelling lead cycle) (length lead + x * length cycle)) p
      turned_run (suc t) =
          let p : suc (j + t) ≡ j + suc t = omega arith in
          let q : length lead + (j + t) * length cycle + length cycle ≡ length lead + (j + suc t) * length cycle =
          omega (arith, suc-mul (j + t) (length cycle), ap (λ x. x * length cycle) p) in
          along_run c (spelling lead cycle) (length lead + (j + t) * length cycle) (turned c s cycle t) cycle (length cycle) (turned_run t)
          (λ i h. cycle_letters (j + t) i h)
          ∙ ap (run c (spelling lead cycle)) q

      -- and after i letters more, i letters on
      pub turned_along : (t i : ℕ) → i < length cycle →
          along c (turned c s cycle t) cycle i ≡ run c (spelling lead cycle) (length lead + (j + t) * length cycle + i)
      turned_along t i h =
          along_run c (spelling lead cycle) (length lead + (j + t) * length cycle) (turned c s cycle t) cycle i (turned_run t)
          (λ x l. cycle_letters (j + t) x (omega arith))

      module _ (test : S → Bool) (k : ℕ) (up : j < k) where
        -- what the cycles from j to k meet stands in that stretch of the run
        pub meets_found : meets c s cycle test (k - j) ≡ true →
            (i : ℕ) × (length lead + j * length cycle ≤ i) × (i < length lead + k * length cycle) × (test (run c (spelling lead cycle) i) ≡ true)
        meets_found h =
            let f = some_found (λ t. cycle_meets c (turned c s cycle t) cycle test) (k - j) h in
            let t = f.0 in
            let g = some_found (λ i. test (along c (turned c s cycle t) cycle i)) (length cycle) f.2 in
            let i = g.0 in
            let low : j * length cycle ≤ (j + t) * length cycle = omega (arith, add-mul j t (length cycle)) in
            let high : suc (j + t) * length cycle ≤ k * length cycle = let b : suc (j + t) ≤ k = omega arith in mul-le-mul_right (length cycle) b in (
              length lead + (j + t) * length cycle + i,
              omega arith,
              omega (arith, suc-mul (j + t) (length cycle)),
              ap test (sym (turned_along t i g.1)) ∙ g.2,
            )

        -- what stands there they meet
        pub meets_at : (i : ℕ) → length lead + j * length cycle ≤ i → i < length lead + k * length cycle →
            test (run c (spelling lead cycle) i) ≡ true → meets c s cycle test (k - j) ≡ true
        meets_at i low high h =
            let d = i - (length lead + j * length cycle) in
            let t = d / length cycle in
            let x = d % length cycle in
            let span : k * length cycle ≡ j * length cycle + (k - j) * length cycle =
            let b : k ≡ j + (k - j) = omega arith in ap (λ n. n * length cycle) b ∙ add-mul j (k - j) (length cycle) in
            let below : t < k - j = div_below d (length cycle) (k - j) pos (omega arith) in
            let at : length lead + (j + t) * length cycle + x ≡ i = omega (arith, add-mul j t (length cycle), div-add-mod' d (length cycle)) in
            let l : x < length cycle = omega arith in
            some_at (λ n. cycle_meets c (turned c s cycle n) cycle test) (k - j) t below
            (some_at (λ n. test (along c (turned c s cycle t) cycle n)) (length cycle) x l
            (ap test (turned_along t x l ∙ ap (run c (spelling lead cycle)) at) ∙ h))

        -- where they meet nothing, nothing stands there
        pub meets_none : meets c s cycle test (k - j) ≡ false →
            (i : ℕ) → length lead + j * length cycle ≤ i → i < length lead + k * length cycle → test (run c (spelling lead cycle) i) ≡ false
        meets_none h i low high = elim (cases_Bool (test (run c (spelling lead cycle) i))) [
          | inl e ↦ absurd (both_ways _ h (meets_at i low high e))
          | inr e ↦ e
        ]
