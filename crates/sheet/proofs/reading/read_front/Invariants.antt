use Rattle.std.proofs.Common.{◌≡◌, length}
use Rattle.names.specs.Listed.{spelled_names}
use Rattle.fields.specs.Walked.{bytes_of, remaining}
use Rattle.sheet.specs.Contents.{fronted}
use Rattle.sheet.proofs.reading.read_front.Given as goal

abbrev pub invariant-loop-field : goal.invariant-loop-field
invariant-loop-field l =
    (bytes_of l.fields ≡ bytes_of l.initial.fields)
    × (fronted (length (bytes_of l.fields)) (spelled_names l.names) (remaining l.fields) ≡ fronted (length (bytes_of l.fields)) (spelled_names l.initial.names) (remaining l.initial.fields))

abbrev pub decreases-loop-field : goal.decreases-loop-field
decreases-loop-field l = length (remaining l.fields)
