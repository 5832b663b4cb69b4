use Rattle.std.proofs.Common.{◌≡◌, ◌++◌, length}
use Rattle.support.specs.Tables.{bytes_in}
use Rattle.support.proofs.bytes_of.Given as goal

abbrev pub invariant-loop-rest : goal.invariant-loop-rest
invariant-loop-rest g l = l.bytes.items ++ bytes_in l.rest ≡ bytes_in l.text

abbrev pub decreases-loop-rest : goal.decreases-loop-rest
decreases-loop-rest g l = length l.rest
