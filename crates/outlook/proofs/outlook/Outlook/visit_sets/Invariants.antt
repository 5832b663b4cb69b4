use Rattle.std.proofs.Common.{length}
use Rattle.few.specs.Items.{items}
use Rattle.rule.specs.Rules.{nodes_in, names_in}
use Rattle.outlook.specs.Pairs.{Visits}
use Rattle.outlook.proofs.outlook.Outlook.visit_sets.Given as goal

abbrev pub invariant-loop-node : goal.invariant-loop-node
invariant-loop-node l = Visits (length (names_in l.self.rule.now)) (nodes_in l.self.rule.now) l.self.forecast (length l.yielded) (items l.visits)
