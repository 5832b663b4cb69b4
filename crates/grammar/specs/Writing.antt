-- A rule's written form.
use Rattle.std.specs.Prelude.{ℕ, List, [], ◌∷◌, ◌++◌, slice_index_or}
use Rattle.ltl.specs.declared.Node.{Node}
use Rattle.ltl.specs.Formula.{Formula, renamed}
use Rattle.ltl.specs.Formula.Formula.{top, bottom, atom, negated, both, either, eventually, always}
use Rattle.ltl.specs.Arena.{root}

-- a formula over the numbers of names, with the names themselves
abbrev pub named : List (List ℕ) → Formula ℕ → Formula (List ℕ)
named names φ = renamed (λ k. slice_index_or names k []) φ

-- the bytes of a formula, without blanks, before `rest`
abbrev pub written_on : Formula (List ℕ) → List ℕ → List ℕ
written_on top rest = 116 ∷ 116 ∷ rest
written_on bottom rest = 102 ∷ 102 ∷ rest
written_on (atom w) rest = w ++ rest
written_on (negated w) rest = 33 ∷ (w ++ rest)
written_on (both φ ψ) rest = 40 ∷ written_on φ (38 ∷ written_on ψ (41 ∷ rest))
written_on (either φ ψ) rest = 40 ∷ written_on φ (124 ∷ written_on ψ (41 ∷ rest))
written_on (eventually φ) rest = 70 ∷ written_on φ rest
written_on (always φ) rest = 71 ∷ written_on φ rest

-- a numbered formula in its written form
abbrev pub written : List (List ℕ) → List Node → List ℕ
written names ns = written_on (named names (root ns)) []
