use Rattle.std.proofs.Common.{◌≡◌, length}
use Rattle.fields.specs.Pieces.{parts}
use Rattle.fields.specs.Walked.{remaining}
use Rattle.sheet.specs.declared.order.Due.TheVariants.{NameOrRule}
use Rattle.sheet.specs.Layout.{orderly}
use Rattle.sheet.proofs.reading.check_fields.Given as goal

abbrev pub invariant-loop-field : goal.invariant-loop-field
invariant-loop-field l = orderly (length l.bytes) l.due (remaining l.fields) ≡ orderly (length l.bytes) NameOrRule (parts l.bytes)

abbrev pub decreases-loop-field : goal.decreases-loop-field
decreases-loop-field l = length (remaining l.fields)
