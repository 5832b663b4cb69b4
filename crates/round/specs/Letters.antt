-- Which lead-ins and cycles make a round, over n names.
use Rattle.std.specs.Prelude.{ℕ, ◌+◌, ◌^◌, Bool, cond, List, ◌++◌, length, Ok, Result, ◌==◌, nat_lt}
use Rattle.std.specs.List.{prefix_len}
use Rattle.refusal.specs.declared.Layer.TheVariants.{Round}
use Rattle.refusal.specs.Answers.{Said, refused}

-- no bit beyond the names
abbrev pub within : ℕ → ℕ → Bool
within n letter = nat_lt letter (2 ^ n)

-- the place of the first letter with a bit beyond the names, or the number of letters where there is none
abbrev pub place_beyond : ℕ → List ℕ → List ℕ → ℕ
place_beyond n lead cycle = prefix_len (within n) (lead ++ cycle)

-- first too many letters, then an empty cycle, then a bit beyond the names
abbrev pub sound : ℕ → List ℕ → List ℕ → Result (Unit {0}) Said
sound n lead cycle =
    cond (nat_lt 1024 (length lead + length cycle)) (refused 11 Round 0)
    (cond (length cycle == 0) (refused 10 Round 0)
    (cond (nat_lt (place_beyond n lead cycle) (length lead + length cycle)) (refused 12 Round (place_beyond n lead cycle))
    (Ok tt)))
