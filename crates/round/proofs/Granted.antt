-- What holds of a lead-in and a cycle that make a round. Assumes nothing.
use Rattle.std.proofs.Common.{◌≡◌, ℕ, ◌<◌, List, length, Ok, arith}
use Rattle.std.proofs.lemmas.Bool.Decides.{nat_tests}
use Rattle.round.specs.Letters.{sound}

-- the cycle has a letter
pub sound_cycle : (n : ℕ) (lead cycle : List ℕ) → Ok tt ≡ sound n lead cycle → 0 < length cycle
sound_cycle n lead cycle granted = grind (arith, nat_tests)
