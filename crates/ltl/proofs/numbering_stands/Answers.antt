use Rattle.ltl.proofs.Numbering.{numbering}
use Rattle.ltl.proofs.numbering_stands.Goals as goal

pub returns : goal.returns
returns c = numbering
