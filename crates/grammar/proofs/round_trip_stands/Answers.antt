use Rattle.ltl.proofs.Numbering.{numbering}
use Rattle.ltl.proofs.Temporal.{temporal_count}
use Rattle.grammar.proofs.Single.{reading_law}
use Rattle.grammar.proofs.RoundTrip.{round_trip}
use Rattle.grammar.proofs.round_trip_stands.Goals as goal

pub returns : goal.returns
returns c = round_trip (reading_law numbering temporal_count)
