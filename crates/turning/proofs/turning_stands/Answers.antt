use Rattle.turning.proofs.Turning.{keeps_acceptance, keeps_first, keeps_limits, plain_pairs}
use Rattle.turning.proofs.Verdicts.{keeps_verdict}
use Rattle.turning.proofs.turning_stands.Goals as goal

pub returns : goal.returns
returns g c = record { plain = plain_pairs; accepts = keeps_acceptance; first = keeps_first; verdict = keeps_verdict; limits = keeps_limits }
