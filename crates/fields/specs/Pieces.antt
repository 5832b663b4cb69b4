-- Bytes as a row of fields.
use Rattle.std.specs.Prelude.{ℕ, zero, suc, ◌+◌, ◌*◌, ◌/◌, ◌%◌, cond, List, [], ◌∷◌, length, take, drop, nat_le, slice_index}

-- a whole field with the place of its tag, or one that runs past the end
pub data Part : Type 0 where
  whole : ℕ → ℕ → List ℕ → Part
  cut : ℕ → Part

-- the length that the two bytes behind a tag tell, the high one first
abbrev pub told : List ℕ → ℕ
told bs = slice_index bs 0 * 256 + slice_index bs 1

-- the fields of bytes whose first stands at place p, of which k still belong to the field before
abbrev pub parts_from : ℕ → ℕ → List ℕ → List Part
parts_from p k [] = []
parts_from p (suc k) (b ∷ bs) = parts_from (p + 1) k bs
parts_from p zero (b ∷ bs) =
    let rest : List Part = parts_from (p + 1) (2 + told bs) bs in
    cond (nat_le (2 + told bs) (length bs)) (whole p b (take (told bs) (drop 2 bs)) ∷ rest) (cut p ∷ [])

abbrev pub parts : List ℕ → List Part
parts bytes = parts_from 0 0 bytes

-- a field written out
abbrev pub encoded : ℕ → List ℕ → List ℕ
encoded tag body = tag ∷ (length body / 256) ∷ (length body % 256) ∷ body
