use Rattle.std.proofs.Common.{arith}
use Rattle.round.proofs.Letterwise.{byte_within, shifted_within}
use Rattle.round.proofs.is_within.Goals as goal

pub returns-then-n-ge8 : goal.returns-then-n-ge8
returns-then-n-ge8 c = byte_within c.args.n c.args.letter (omega arith) (omega arith)

pub returns : goal.returns
returns c = shifted_within c.args.n c.args.letter
