use Rattle.bits.proofs.Bits.{or_put}
use Rattle.bits.proofs.word.U8Word.with.Goals as goal

pub returns-then-k-lt8 : goal.returns-then-k-lt8
returns-then-k-lt8 c = or_put c.args.k c.args.self 8
