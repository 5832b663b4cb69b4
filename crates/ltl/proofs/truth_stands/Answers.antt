use Rattle.ltl.proofs.Truth.{unrolling, settling}
use Rattle.ltl.proofs.RoundWords.{rounds_repeat}
use Rattle.ltl.proofs.truth_stands.Goals as goal

pub returns : goal.returns
returns c = record { unrolls = unrolling; settles = settling; repeats = rounds_repeat }
