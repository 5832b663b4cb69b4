-- Subformulae, and the list of the places where they end.
use Rattle.std.proofs.Common.{◌≡◌, ℕ, suc, ◌<◌, ◌≤◌, max, List, [], ◌∷◌, ◌++◌, sym, refl, subst, arith}
use mathlib.Core.Logic.◌⊎◌.{inl, inr}
use Rattle.std.proofs.lemmas.List.{append_assoc}
use Rattle.ltl.specs.Formula.{Formula, Within, depth, ends, Below}
use Rattle.ltl.specs.Formula.Formula.{top, bottom, atom, negated, both, either, eventually, always}
use Rattle.ltl.specs.Formula.Within.{whole, in_both_left, in_both_right, in_either_left, in_either_right, in_eventually, in_always}
use Rattle.ltl.proofs.Once.{In, in_left, in_right, in_append, in_one}

-- the last end is the formula's own
pub ends_self : {A : Type 0} (φ : Formula A) → In φ (ends φ)
ends_self top = inl refl
ends_self bottom = inl refl
ends_self (atom a) = inl refl
ends_self (negated a) = inl refl
ends_self (both φ ψ) = in_right _ (ends φ) _ (in_right _ (ends ψ) _ (inl refl))
ends_self (either φ ψ) = in_right _ (ends φ) _ (in_right _ (ends ψ) _ (inl refl))
ends_self (eventually φ) = in_right _ (ends φ) _ (inl refl)
ends_self (always φ) = in_right _ (ends φ) _ (inl refl)

-- what is equal to a formula stands in it
within_same : {A : Type 0} (ψ φ : Formula A) → ψ ≡ φ → Within ψ φ
within_same ψ φ e = subst (λ z. Within z φ) (sym e) whole

-- what ends in a formula stands in it
pub ends_within : {A : Type 0} (ψ φ : Formula A) → In ψ (ends φ) → Within ψ φ
ends_within ψ top i = within_same ψ top (in_one ψ top i)
ends_within ψ bottom i = within_same ψ bottom (in_one ψ bottom i)
ends_within ψ (atom a) i = within_same ψ (atom a) (in_one ψ (atom a) i)
ends_within ψ (negated a) i = within_same ψ (negated a) (in_one ψ (negated a) i)
ends_within ψ (both φ χ) i = elim (in_append ψ (ends φ) (ends χ ++ (both φ χ ∷ [])) i) [
  | inl a ↦ in_both_left (ends_within ψ φ a)
  | inr b ↦ elim (in_append ψ (ends χ) (both φ χ ∷ []) b)
      [ inl c ↦ in_both_right (ends_within ψ χ c) | inr c ↦ within_same ψ (both φ χ) (in_one ψ (both φ χ) c) ]
]
ends_within ψ (either φ χ) i = elim (in_append ψ (ends φ) (ends χ ++ (either φ χ ∷ [])) i) [
  | inl a ↦ in_either_left (ends_within ψ φ a)
  | inr b ↦ elim (in_append ψ (ends χ) (either φ χ ∷ []) b)
      [ inl c ↦ in_either_right (ends_within ψ χ c) | inr c ↦ within_same ψ (either φ χ) (in_one ψ (either φ χ) c) ]
]
ends_within ψ (eventually φ) i = elim (in_append ψ (ends φ) (eventually φ ∷ []) i)
    [ inl a ↦ in_eventually (ends_within ψ φ a) | inr c ↦ within_same ψ (eventually φ) (in_one ψ (eventually φ) c) ]
ends_within ψ (always φ) i = elim (in_append ψ (ends φ) (always φ ∷ []) i)
    [ inl a ↦ in_always (ends_within ψ φ a) | inr c ↦ within_same ψ (always φ) (in_one ψ (always φ) c) ]

-- what stands in a formula ends in it
pub within_ends : {A : Type 0} (ψ φ : Formula A) → Within ψ φ → In ψ (ends φ)
within_ends ψ φ whole = ends_self ψ
within_ends ψ (both φ χ) (in_both_left w) = in_left ψ (ends φ) _ (within_ends ψ φ w)
within_ends ψ (both φ χ) (in_both_right w) = in_right ψ (ends φ) _ (in_left ψ (ends χ) _ (within_ends ψ χ w))
within_ends ψ (either φ χ) (in_either_left w) = in_left ψ (ends φ) _ (within_ends ψ φ w)
within_ends ψ (either φ χ) (in_either_right w) = in_right ψ (ends φ) _ (in_left ψ (ends χ) _ (within_ends ψ χ w))
within_ends ψ (eventually φ) (in_eventually w) = in_left ψ (ends φ) _ (within_ends ψ φ w)
within_ends ψ (always φ) (in_always w) = in_left ψ (ends φ) _ (within_ends ψ φ w)

-- what stands in a formula is not deeper
pub within_depth : {A : Type 0} (ψ φ : Formula A) → Within ψ φ → depth ψ ≤ depth φ
within_depth ψ φ whole = omega arith
within_depth ψ (both φ χ) (in_both_left w) = omega (arith, within_depth ψ φ w)
within_depth ψ (both φ χ) (in_both_right w) = omega (arith, within_depth ψ χ w)
within_depth ψ (either φ χ) (in_either_left w) = omega (arith, within_depth ψ φ w)
within_depth ψ (either φ χ) (in_either_right w) = omega (arith, within_depth ψ χ w)
within_depth ψ (eventually φ) (in_eventually w) = omega (arith, within_depth ψ φ w)
within_depth ψ (always φ) (in_always w) = omega (arith, within_depth ψ φ w)

-- a bound on the atoms of a formula bounds those of each formula that stands in it
pub within_below : (n : ℕ) (ψ φ : Formula ℕ) → Within ψ φ → Below n φ → Below n ψ
within_below n ψ φ whole b = b
within_below n ψ (both φ χ) (in_both_left w) b = within_below n ψ φ w b.0
within_below n ψ (both φ χ) (in_both_right w) b = within_below n ψ χ w b.1
within_below n ψ (either φ χ) (in_either_left w) b = within_below n ψ φ w b.0
within_below n ψ (either φ χ) (in_either_right w) b = within_below n ψ χ w b.1
within_below n ψ (eventually φ) (in_eventually w) b = within_below n ψ φ w b
within_below n ψ (always φ) (in_always w) b = within_below n ψ φ w b

-- what ends in one of two formulae is less deep than what joins them
ends_two : {A : Type 0} (φ χ ψ : Formula A) → In ψ (ends φ ++ ends χ) → depth ψ < suc (max (depth φ) (depth χ))
ends_two φ χ ψ i = elim (in_append ψ (ends φ) (ends χ) i)
    [ inl a ↦ omega (arith, within_depth ψ φ (ends_within ψ φ a)) | inr b ↦ omega (arith, within_depth ψ χ (ends_within ψ χ b)) ]

-- what ends in a formula is less deep than what is made of it
ends_one : {A : Type 0} (φ ψ : Formula A) → In ψ (ends φ) → depth ψ < suc (depth φ)
ends_one φ ψ i = omega (arith, within_depth ψ φ (ends_within ψ φ i))

-- a formula ends last, and what ends before it is less deep
pub ends_last : {A : Type 0} (φ : Formula A)
    → (pre : List (Formula A)) × (ends φ ≡ pre ++ (φ ∷ [])) × ((ψ : Formula A) → In ψ pre → depth ψ < depth φ)
ends_last top = ([], refl, λ ψ i. absurd i)
ends_last bottom = ([], refl, λ ψ i. absurd i)
ends_last (atom a) = ([], refl, λ ψ i. absurd i)
ends_last (negated a) = ([], refl, λ ψ i. absurd i)
ends_last (both φ χ) = (ends φ ++ ends χ, sym (append_assoc (ends φ) (ends χ) _), ends_two φ χ)
ends_last (either φ χ) = (ends φ ++ ends χ, sym (append_assoc (ends φ) (ends χ) _), ends_two φ χ)
ends_last (eventually φ) = (ends φ, refl, ends_one φ)
ends_last (always φ) = (ends φ, refl, ends_one φ)
