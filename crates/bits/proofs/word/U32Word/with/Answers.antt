use Rattle.bits.proofs.Bits.{or_put}
use Rattle.bits.proofs.word.U32Word.with.Goals as goal

pub returns-then-k-lt32 : goal.returns-then-k-lt32
returns-then-k-lt32 c = or_put c.args.k c.args.self 32
