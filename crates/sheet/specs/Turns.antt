-- The rounds of a sheet, one after the other.
use Rattle.std.specs.Prelude.{ℕ, List}
use Rattle.fields.specs.Walked.{remaining}
use Rattle.round.specs.declared.Round.{Round}
use Rattle.sheet.specs.declared.view.Rounds.{Rounds}
use Rattle.sheet.specs.Contents.{rounds_in}

abbrev pub rounds_left : Rounds → List (List ℕ × List ℕ)
rounds_left r = rounds_in (remaining r.fields)

-- a round by its letters
abbrev pub letters : Round → List ℕ × List ℕ
letters r = (r.lead.now, r.cycle.now)
