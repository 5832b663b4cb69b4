use Rattle.ltl.proofs.Numbering.{numbering}
use Rattle.ltl.proofs.Temporal.{temporal_count}
use Rattle.grammar.proofs.Single.{reading_law}
use Rattle.grammar.proofs.reading_stands.Goals as goal

pub returns : goal.returns
returns c = reading_law numbering temporal_count
