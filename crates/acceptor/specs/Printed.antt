-- A judgement as a report prints it.
use Rattle.std.specs.Prelude.{ℕ, List, ◌++◌, Some, None, Option, codes}
use Rattle.std.specs.Fmt.{decimal}

-- the first accepting pair, where there is one, and the passes
abbrev pub judgement_text : Option ℕ → ℕ → List ℕ
judgement_text (Some pair) passes = codes "yes pair " ++ decimal pair ++ codes " passes " ++ decimal passes
judgement_text None passes = codes "no passes " ++ decimal passes
