-- What the numbering is, in terms of formulae alone.
use Rattle.std.specs.Prelude.{◌≡◌, ℕ, ◌<◌, Bool, true, false, List, length, slice_index_or}
use Rattle.std.proofs.Math.Decide.{ℕ_discrete}
use Rattle.ltl.specs.Formula.{Formula, Within, ends, formula_discrete, Below}
use Rattle.ltl.specs.Formula.Formula.{bottom}
use Rattle.ltl.specs.Lists.{position, firsts}
use Rattle.ltl.specs.Arena.{arena, meanings, root, all_sound}

abbrev pub same_formula : Formula ℕ → Formula ℕ → Bool
same_formula φ ψ = elim (formula_discrete ℕ_discrete φ ψ) [ yes e ↦ true | no e ↦ false ]

-- the distinct subformulae in the order of their last bytes
abbrev pub subformulae : Formula ℕ → List (Formula ℕ)
subformulae φ = firsts same_formula (ends φ)

-- number k is the subformula at place k
abbrev pub nth : Formula ℕ → ℕ → Formula ℕ
nth φ k = slice_index_or (subformulae φ) k bottom

pub record Numbers (φ : Formula ℕ) : Type 0 where
  -- the nodes spell the distinct subformulae, and the last is the formula
  pub spells : meanings (arena φ) ≡ subformulae φ
  pub count : length (arena φ) ≡ length (subformulae φ)
  pub some : 0 < length (arena φ)
  pub last : root (arena φ) ≡ φ
  -- each subformula has a number, and nothing else has; equal ones are one
  pub stands : (k : ℕ) → k < length (subformulae φ) → Within (nth φ k) φ
  pub listed : (ψ : Formula ℕ) → Within ψ φ → (k : ℕ) × (k < length (subformulae φ)) × (nth φ k ≡ ψ)
  pub once : (j k : ℕ) → j < length (subformulae φ) → k < length (subformulae φ) → nth φ j ≡ nth φ k → j ≡ k
  -- a lower number ends first
  pub order : (j k : ℕ) → j < k → k < length (subformulae φ) → position same_formula (nth φ j) (ends φ) < position same_formula (nth φ k) (ends φ)
  -- parts have smaller numbers, and atoms stay below their bound
  pub inner : (n : ℕ) → Below n φ → all_sound n 0 (arena φ) ≡ true

abbrev pub Numbering : Type 0
Numbering = (φ : Formula ℕ) → Numbers φ
