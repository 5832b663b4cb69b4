use Rattle.std.proofs.Common.{length}
use Rattle.rule.specs.Rules.{nodes_in}
use Rattle.outlook.specs.Pairs.{AtOdds}
use Rattle.outlook.proofs.outlook.Outlook.odds.Given as goal

abbrev pub invariant-loop-node : goal.invariant-loop-node
invariant-loop-node l = AtOdds (nodes_in l.self.rule.now) l.self.forecast (length l.yielded) l.odds
