use Rattle.bits.proofs.Bits.{or_put}
use Rattle.bits.proofs.word.U64Word.with.Goals as goal

pub returns-then-k-lt64 : goal.returns-then-k-lt64
returns-then-k-lt64 c = or_put c.args.k c.args.self 64
