use Rattle.std.proofs.Common.{◌+◌, ◌*◌, max}
use Rattle.rule.proofs.held.Rule.+writing.Given as goal

-- a joined part is between its parts and what it is a part of
abbrev pub decreases-write_joined : goal.decreases-write_joined
decreases-write_joined l = 2 * max l.i l.j + 2

abbrev pub decreases-write_part : goal.decreases-write_part
decreases-write_part l = 2 * l.k + 1

abbrev pub decreases-write_behind : goal.decreases-write_behind
decreases-write_behind l = 2 * l.i + 2
