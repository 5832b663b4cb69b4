-- There are no more rounds than bytes. Assumes nothing.
use Rattle.std.proofs.Common.{ℕ, zero, suc, ◌+◌, ◌≤◌, Bool, true, false, cond, List, [], ◌∷◌, length, drop, arith, length-drop}
use Rattle.fields.specs.Pieces.{Part, parts_from}
use Rattle.fields.specs.Pieces.Part.{whole, cut}
use Rattle.sheet.specs.Contents.{rounds_in}

either_few : (b : Bool) (w c : Part) (ps : List Part) (n : ℕ) → length ps ≤ n → length (cond b (w ∷ ps) (c ∷ [])) ≤ suc n
either_few true w c ps n h = omega arith
either_few false w c ps n h = omega arith

-- each field has a byte
parts_few : (p k : ℕ) (bs : List ℕ) → length (parts_from p k bs) ≤ length bs
parts_few p k [] = omega arith
parts_few p (suc k) (b ∷ bs) = omega (arith, parts_few (p + 1) k bs)
parts_few p zero (b ∷ bs) = either_few _ _ _ _ (length bs) (parts_few (p + 1) _ bs)

-- each round has a field
rounds_few : (ps : List Part) → length (rounds_in ps) ≤ length ps
rounds_few [] = omega arith
rounds_few (cut p ∷ ps) = omega arith
rounds_few (whole p t lead ∷ []) = omega arith
rounds_few (whole p t lead ∷ cut q ∷ ps) = omega arith
rounds_few (whole p t lead ∷ whole q u cycle ∷ ps) = omega (arith, rounds_few ps)

pub few : (p : ℕ) (bytes : List ℕ) → length (rounds_in (parts_from p 0 (drop p bytes))) ≤ length bytes
few p bytes = omega (arith, rounds_few (parts_from p 0 (drop p bytes)), parts_few p 0 (drop p bytes), length-drop p bytes)
