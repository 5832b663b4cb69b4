-- Infinite words of letters, and when a formula holds at a position of one.
use Rattle.std.specs.Prelude.{◌≡◌, ℕ, ◌/◌, ◌%◌, ◌^◌, ◌≤◌, Bool, true, false, ◌⊎◌, ◌==◌}
use Rattle.ltl.specs.Formula.{Formula}
use Rattle.ltl.specs.Formula.Formula.{top, bottom, atom, negated, both, either, eventually, always}

-- the letter at each position
abbrev pub Word : Type 0
Word = ℕ → ℕ

-- name k holds in a letter when bit k is set
abbrev pub bit : ℕ → ℕ → Bool
bit k letter = (letter / 2 ^ k) % 2 == 1

abbrev pub Sat : Formula ℕ → Word → ℕ → Type 0
Sat top w i = Unit {0}
Sat bottom w i = ⊥
Sat (atom k) w i = bit k (w i) ≡ true
Sat (negated k) w i = bit k (w i) ≡ false
Sat (both φ ψ) w i = Sat φ w i × Sat ψ w i
Sat (either φ ψ) w i = Sat φ w i ⊎ Sat ψ w i
Sat (eventually φ) w i = (j : ℕ) × (i ≤ j) × Sat φ w j
Sat (always φ) w i = (j : ℕ) → i ≤ j → Sat φ w j

-- a word satisfies a formula when it holds at the first position
abbrev pub Satisfies : Word → Formula ℕ → Type 0
Satisfies w φ = Sat φ w 0
