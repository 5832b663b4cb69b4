-- The word that a round spells: its lead-in, then its cycle again and again. Assumes nothing.
use Rattle.std.proofs.Common.{◌≡◌, ℕ, ◌+◌, ◌-◌, ◌%◌, ◌<◌, ◌≤◌, ltb, List, length, get_or, sym, ap, ◌∙◌, mod-eq_of_lt, arith}
use native.Mathlib.Nat.{add-mod_right}
use Rattle.std.proofs.lemmas.Bool.{cond-true, cond-false, lt-ltb, le-ltb}
use Rattle.ltl.specs.Rounds.{spelling, RoundsRepeat}

-- within the lead-in the word is the lead-in
pub spelling_lead : (lead cycle : List ℕ) (i : ℕ) → i < length lead → spelling lead cycle i ≡ get_or lead i 0
spelling_lead lead cycle i h = cond-true (ltb i (length lead)) _ _ (lt-ltb i (length lead) h)

-- behind the lead-in the word is the cycle, by remainders
pub spelling_later : (lead cycle : List ℕ) (i : ℕ) → length lead ≤ i → spelling lead cycle i ≡ get_or cycle ((i - length lead) % length cycle) 0
spelling_later lead cycle i h = cond-false (ltb i (length lead)) _ _ (le-ltb i (length lead) h)

-- the first cycle stands right behind the lead-in
pub spelling_cycle : (lead cycle : List ℕ) (i : ℕ) → i < length cycle → spelling lead cycle (length lead + i) ≡ get_or cycle i 0
spelling_cycle lead cycle i h =
    let e : length lead + i - length lead ≡ i = omega arith in
    spelling_later lead cycle (length lead + i) (omega arith) ∙ ap (λ k. get_or cycle k 0) (ap (λ k. k % length cycle) e ∙ mod-eq_of_lt h)

-- behind the lead-in the word comes back after each cycle
pub rounds_repeat : RoundsRepeat
rounds_repeat lead cycle pos i h =
    let e : i + length cycle - length lead ≡ (i - length lead) + length cycle = omega arith in
    spelling_later lead cycle (i + length cycle) (omega arith)
    ∙ ap (λ k. get_or cycle k 0) (ap (λ k. k % length cycle) e ∙ add-mod_right (i - length lead) (length cycle))
    ∙ sym (spelling_later lead cycle i h)
