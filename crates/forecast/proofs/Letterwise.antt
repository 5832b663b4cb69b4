-- The letters of a sound round. Assumes nothing.
use Rattle.std.proofs.Common.{◌≡◌, ℕ, zero, suc, ◌+◌, ◌-◌, ◌%◌, ◌^◌, ◌<◌, ◌≤◌, Bool, true, false, cond, List, [], ◌∷◌, ◌++◌, length, get_or, Ok, sym, refl, ◌∙◌, subst, mod-lt, arith}
use mathlib.Core.Logic.◌⊎◌.{inl, inr}
use Rattle.std.specs.List.{prefix_len}
use Rattle.std.proofs.lemmas.Bool.{cases_lt, ltb-true}
use Rattle.std.proofs.lemmas.List.{length-append, get_or_append_left, get_or-append-add}
use Rattle.std.proofs.lemmas.Bool.Decides.{nat_tests}
use Rattle.ltl.specs.Rounds.{spelling}
use Rattle.ltl.proofs.RoundWords.{spelling_lead, spelling_later}
use Rattle.round.specs.Letters.{within, place_beyond, sound}

-- where a test passes from the front to the end it passes everywhere
leading_all : (p : ℕ → Bool) (xs : List ℕ) → length xs ≤ prefix_len p xs → (k : ℕ) → k < length xs → p (get_or xs k 0) ≡ true
leading_all p [] h k l = let z : ⊥ = omega arith in absurd z
leading_all p (x ∷ xs) h k l = go (p x) (leading_all p xs) h k l refl
  where
    go : (b : Bool) → (length xs ≤ prefix_len p xs → (j : ℕ) → j < length xs → p (get_or xs j 0) ≡ true)
        → length (x ∷ xs) ≤ cond b (1 + prefix_len p xs) 0 → (k : ℕ) → k < length (x ∷ xs) → p x ≡ b → p (get_or (x ∷ xs) k 0) ≡ true
    go true rest h zero l e = e
    go true rest h (suc k) l e = rest (omega arith) k (omega arith)
    go false rest h k l e = let z : ⊥ = omega arith in absurd z

-- no letter of a sound round is beyond its names
sound_whole : (n : ℕ) (lead cycle : List ℕ) → sound n lead cycle ≡ Ok tt → length lead + length cycle ≤ place_beyond n lead cycle
sound_whole n lead cycle granted = grind (arith, nat_tests)

-- a sound round spells letters over its names
pub sound_letters : (n : ℕ) (lead cycle : List ℕ) → sound n lead cycle ≡ Ok tt → 0 < length cycle → (i : ℕ) → spelling lead cycle i < 2 ^ n
sound_letters n lead cycle granted pos i = elim (cases_lt i (length lead)) [
  | inl l ↦ subst (λ a. a < 2 ^ n) (get_or_append_left lead cycle 0 i l ∙ sym (spelling_lead lead cycle i l)) (each i (omega (arith, length-append lead cycle)))
  | inr l ↦
      let k = (i - length lead) % length cycle in
      let b : k < length cycle = mod-lt (i - length lead) pos in
      subst (λ a. a < 2 ^ n) (get_or-append-add lead cycle k 0 ∙ sym (spelling_later lead cycle i l))
      (each (length lead + k) (omega (arith, length-append lead cycle)))
]
  where
    each : (j : ℕ) → j < length (lead ++ cycle) → get_or (lead ++ cycle) j 0 < 2 ^ n
    each j l = ltb-true _ _ (leading_all (within n) (lead ++ cycle) (omega (arith, sound_whole n lead cycle granted, length-append lead cycle)) j l)
