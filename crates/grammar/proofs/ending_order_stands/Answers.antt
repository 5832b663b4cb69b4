use Rattle.grammar.proofs.Endings.{ending_order}
use Rattle.grammar.proofs.ending_order_stands.Goals as goal

pub returns : goal.returns
returns c = ending_order
