-- Formulae of LTL(F,G) in negation normal form, over atoms of any kind.
use Rattle.std.specs.Prelude.{ℕ, suc, ◌<◌, max, Bool, true, false, List, [], ◌∷◌, ◌++◌}

pub data Formula (A : Type 0) : Type 0 where
  top : Formula A
  bottom : Formula A
  atom : A → Formula A
  negated : A → Formula A
  both : Formula A → Formula A → Formula A
  either : Formula A → Formula A → Formula A
  eventually : Formula A → Formula A
  always : Formula A → Formula A
  deriving Discrete as formula_discrete

-- the same formula over other atoms
abbrev pub renamed : {A B : Type 0} → (A → B) → Formula A → Formula B
renamed f top = top
renamed f bottom = bottom
renamed f (atom a) = atom (f a)
renamed f (negated a) = negated (f a)
renamed f (both φ ψ) = both (renamed f φ) (renamed f ψ)
renamed f (either φ ψ) = either (renamed f φ) (renamed f ψ)
renamed f (eventually φ) = eventually (renamed f φ)
renamed f (always φ) = always (renamed f φ)

-- the whole formula has depth 1, what an operator joins one more; a negated atom is no level of its own
abbrev pub depth : {A : Type 0} → Formula A → ℕ
depth top = 1
depth bottom = 1
depth (atom a) = 1
depth (negated a) = 1
depth (both φ ψ) = suc (max (depth φ) (depth ψ))
depth (either φ ψ) = suc (max (depth φ) (depth ψ))
depth (eventually φ) = suc (depth φ)
depth (always φ) = suc (depth φ)

-- each atom is below n
abbrev pub Below : ℕ → Formula ℕ → Type 0
Below n top = Unit {0}
Below n bottom = Unit {0}
Below n (atom a) = a < n
Below n (negated a) = a < n
Below n (both φ ψ) = Below n φ × Below n ψ
Below n (either φ ψ) = Below n φ × Below n ψ
Below n (eventually φ) = Below n φ
Below n (always φ) = Below n φ

abbrev pub is_temporal : {A : Type 0} → Formula A → Bool
is_temporal top = false
is_temporal bottom = false
is_temporal (atom a) = false
is_temporal (negated a) = false
is_temporal (both φ ψ) = false
is_temporal (either φ ψ) = false
is_temporal (eventually φ) = true
is_temporal (always φ) = true

-- ψ stands in φ; a negated atom does not contain the atom
pub data Within {A : Type 0} : Formula A → Formula A → Type 0 where
  whole : {φ : Formula A} → Within φ φ
  in_both_left : {ψ φ χ : Formula A} → Within ψ φ → Within ψ (both φ χ)
  in_both_right : {ψ φ χ : Formula A} → Within ψ χ → Within ψ (both φ χ)
  in_either_left : {ψ φ χ : Formula A} → Within ψ φ → Within ψ (either φ χ)
  in_either_right : {ψ φ χ : Formula A} → Within ψ χ → Within ψ (either φ χ)
  in_eventually : {ψ φ : Formula A} → Within ψ φ → Within ψ (eventually φ)
  in_always : {ψ φ : Formula A} → Within ψ φ → Within ψ (always φ)

-- every place where a subformula ends, in the order of the last bytes, inner before outer
abbrev pub ends : {A : Type 0} → Formula A → List (Formula A)
ends top = top ∷ []
ends bottom = bottom ∷ []
ends (atom a) = atom a ∷ []
ends (negated a) = negated a ∷ []
ends (both φ ψ) = ends φ ++ (ends ψ ++ (both φ ψ ∷ []))
ends (either φ ψ) = ends φ ++ (ends ψ ++ (either φ ψ ∷ []))
ends (eventually φ) = ends φ ++ (eventually φ ∷ [])
ends (always φ) = ends φ ++ (always φ ∷ [])
