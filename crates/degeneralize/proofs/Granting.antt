-- What a granted or a refused turned acceptor tells. Assumes nothing.
use Rattle.std.proofs.Common.{◌≡◌, ℕ, ◌<◌, ◌≤◌, Ok, Err, arith}
use Rattle.std.proofs.lemmas.Bool.Decides.{nat_tests}
use Rattle.refusal.specs.declared.Layer.TheVariants.{Turn}
use Rattle.refusal.specs.Answers.{Said}
use Rattle.degeneralize.specs.Granted.{granted}

-- granted: there are at most 16 pairs, and the acceptor is the one that was given
pub granted_few : {A : Type 0} (count : ℕ) (x y : A) → Ok y ≡ granted count x → (count ≤ 16) × (y ≡ x)
granted_few count x y e = (grind (arith, nat_tests), grind (arith, nat_tests))

-- refused: there are more, and this is said
pub refused_many : {A : Type 0} (count : ℕ) (x : A) (said : Said) → Err said ≡ granted count x → (16 < count) × (said ≡ record { number = 13; layer = Turn; place = 0 })
refused_many count x said e = (grind (arith, nat_tests), grind (arith, nat_tests))
