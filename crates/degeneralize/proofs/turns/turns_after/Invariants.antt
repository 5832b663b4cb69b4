use Rattle.std.proofs.Common.{◌≡◌, ◌++◌, drop}
use Rattle.turning.specs.Turns.{next_turns}
use Rattle.degeneralize.proofs.turns.turns_after.Given as goal

abbrev pub invariant-loop-pair : goal.invariant-loop-pair
invariant-loop-pair g l = l.turn-items ++ drop l.pairs l.turns ≡ next_turns (g.A.Acceptor.judges l.inner) l.state l.turns l.pair
