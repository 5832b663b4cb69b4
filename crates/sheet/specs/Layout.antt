-- The order of a sheet's fields: 1 for each name, 2 for the rule, then 3 and 4 for each round.
use Rattle.std.specs.Prelude.{ℕ, cond, List, [], ◌∷◌, length, Ok, Result, ◌==◌, nat_lt}
use Rattle.refusal.specs.declared.Layer.TheVariants.{Sheet}
use Rattle.refusal.specs.Answers.{Said, refused, and_then}
use Rattle.fields.specs.Pieces.{Part, parts}
use Rattle.fields.specs.Pieces.Part.{whole, cut}
use Rattle.sheet.specs.declared.order.Due.{Due}
use Rattle.sheet.specs.declared.order.Due.TheVariants.{NameOrRule, LeadIn, Cycle}

-- a field that cannot stand at its place, or the end where one is due
abbrev pub misplaced : {A : Type 0} → ℕ → Result A Said
misplaced p = refused 21 Sheet p

-- what is due behind a field with this tag
abbrev pub after : Due → ℕ → ℕ → Result Due Said
after NameOrRule t p = cond (t == 1) (Ok NameOrRule) (cond (t == 2) (Ok LeadIn) (misplaced p))
after LeadIn t p = cond (t == 3) (Ok Cycle) (misplaced p)
after Cycle t p = cond (t == 4) (Ok LeadIn) (misplaced p)

-- whether the sheet may end here
abbrev pub may_end : Due → ℕ → Result (Unit {0}) Said
may_end NameOrRule stop = misplaced stop
may_end LeadIn stop = Ok tt
may_end Cycle stop = misplaced stop

abbrev pub orderly : ℕ → Due → List Part → Result (Unit {0}) Said
orderly stop due [] = may_end due stop
orderly stop due (cut p ∷ ps) = misplaced p
orderly stop due (whole p t b ∷ ps) = and_then (after due t p) (λ d. orderly stop d ps)

-- whether bytes are laid out as a sheet, of at most 8,192 bytes
abbrev pub ordered : List ℕ → Result (Unit {0}) Said
ordered bytes = cond (nat_lt 8192 (length bytes)) (misplaced 8192) (orderly (length bytes) NameOrRule (parts bytes))
