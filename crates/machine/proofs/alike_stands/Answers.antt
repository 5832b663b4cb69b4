use Rattle.machine.proofs.Alike.{judged_alike}
use Rattle.machine.proofs.alike_stands.Goals as goal

pub returns : goal.returns
returns g c = judged_alike
