use Rattle.forecast.proofs.Says.{says_the_rule}
use Rattle.forecast.proofs.Limited.{keeps_limits}
use Rattle.forecast.proofs.Recasts.{recasting}
use Rattle.forecast.proofs.pairs_stand.Goals as goal

pub returns : goal.returns
returns g c = record { says = says_the_rule; limits = keeps_limits; recasts = recasting }
