use Rattle.std.proofs.Common.{length}
use Rattle.few.specs.Items.{items}
use Rattle.rule.specs.Rules.{names_in, nodes_in}
use Rattle.translate.specs.Tables.{Listed}
use Rattle.translate.proofs.listing.all_pairs.Given as goal

abbrev pub invariant-loop-forecast : goal.invariant-loop-forecast
invariant-loop-forecast l = Listed (length (names_in l.rule)) (nodes_in l.rule) (length l.yielded) (items l.pairs)
