-- One field of a sheet. Assumes nothing.
use Rattle.std.proofs.Common.{◌≡◌, ℕ, List, [], ◌∷◌}
use Rattle.refusal.specs.Answers.{and_then}
use Rattle.fields.specs.Pieces.{Part}
use Rattle.fields.specs.Pieces.Part.{whole, cut}
use Rattle.fields.specs.Walked.{next}
use Rattle.fields.specs.Walked.Met.{took}
use Rattle.sheet.specs.declared.order.Due.{Due}
use Rattle.sheet.specs.Layout.{after, orderly}

-- a whole field decides what is due behind it
pub orderly_took : (stop : ℕ) (due : Due) (ps : List Part) (p t : ℕ) (b : List ℕ) (rest : List Part) → took p t b rest ≡ next ps → and_then (after due t p) (λ d. orderly stop d rest) ≡ orderly stop due ps
orderly_took stop due [] p t b rest e = cc
orderly_took stop due (cut q ∷ ps) p t b rest e = cc
orderly_took stop due (whole q u b' ∷ ps) p t b rest e =
    let place : p ≡ q = cc in
    let tag : t ≡ u = cc in
    let left : rest ≡ ps = cc in
    λ i. and_then (after due (tag i) (place i)) (λ d. orderly stop d (left i))
