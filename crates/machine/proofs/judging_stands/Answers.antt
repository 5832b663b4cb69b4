use Rattle.machine.proofs.Single.{one_judgement}
use Rattle.machine.proofs.Looping.{looping}
use Rattle.machine.proofs.judging_stands.Goals as goal

pub returns : goal.returns
returns g c = record { unique = one_judgement; loops = looping }
