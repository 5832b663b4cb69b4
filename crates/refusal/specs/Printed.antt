-- What a report prints of a refusal.
use Rattle.std.specs.Prelude.{ℕ, List, ◌++◌, codes, decimal}
use Rattle.refusal.specs.declared.Refusal.{Refusal}
use Rattle.refusal.specs.Answers.{number, layer_name}

-- its number, the layer that found it, and the place
abbrev pub refusal_text : Refusal → List ℕ
refusal_text r = codes "refused " ++ (decimal (number r.cause) ++ (codes " " ++ (layer_name r.layer ++ (codes " place " ++ decimal r.place))))
