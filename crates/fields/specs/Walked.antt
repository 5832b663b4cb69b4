-- A walk over the fields of bytes.
use Rattle.std.specs.Prelude.{ℕ, List, [], ◌∷◌, drop, Option, Some, None, Result, Ok, Err}
use Rattle.fields.specs.declared.piece.Fields.{Fields}
use Rattle.fields.specs.declared.piece.Field.{Field}
use Rattle.fields.specs.declared.piece.Cut.{Cut}
use Rattle.fields.specs.Pieces.{Part, parts_from}
use Rattle.fields.specs.Pieces.Part.{whole, cut}

abbrev pub bytes_of : Fields → List ℕ
bytes_of f = f.bytes.now

-- the fields that are still to come
abbrev pub remaining : Fields → List Part
remaining f = parts_from f.at 0 (drop f.at (bytes_of f))

-- what a walk meets next, and what is left behind it
pub data Met : Type 0 where
  took : ℕ → ℕ → List ℕ → List Part → Met
  broke : ℕ → Met
  ended : Met

abbrev pub next : List Part → Met
next [] = ended
next (whole p t b ∷ ps) = took p t b ps
next (cut p ∷ ps) = broke p

abbrev pub met : Fields → Result (Option Field) Cut → Met
met f (Ok (Some x)) = took x.place x.tag x.body.now (remaining f)
met f (Ok None) = ended
met f (Err c) = broke c.place
