use Rattle.std.proofs.Common.{refl}
use Rattle.rule.proofs.Pasting.{copied}
use Rattle.rule.proofs.writing.put.Goals as goal

pub returns : goal.returns
returns c = record {
  after = copied c.args.at c.args.word.now c.args.out.now _ c.copy_from_slice.ensures.after;
  end = refl;
}
