use Rattle.std.proofs.Common.{[], get_or, sym, ap, ◌∙◌, arith}
use Rattle.rule.specs.Rules.{names_in}
use Rattle.rule.specs.Written.{part_in}
use Rattle.rule.proofs.Parts.{part_at}
use Rattle.rule.proofs.Pasting.{wrote_more, wrote_joined, wrote_as}
use Rattle.rule.proofs.held.Rule.+writing.Goals as goal

pub write_joined-returns : goal.write_joined-returns
write_joined-returns t c =
    let p = part_in c.args.self.now c.args.i in
    let q = part_in c.args.self.now c.args.j in
    wrote_joined c.args.mark p q c.requires.room c.put-first.ensures c.write_part-operator.ensures c.put-second.ensures c.write_part-bracket.ensures c.put.ensures

pub write_part-returns-in-NotAtom : goal.write_part-returns-in-NotAtom
write_part-returns-in-NotAtom t c = let p = part_at c.args.self.now c.args.k c.requires.0 c.from.ensures c.node.ensures c.in-NotAtom.is in wrote_as (sym p.is) (wrote_more (omega (arith, p.width)) c.put-name.ensures (wrote_as (c.get-in-NotAtom.ensures ∙ ap (λ n. get_or (names_in c.args.self.now) n []) c.from-in-NotAtom.ensures) c.put-in-NotAtom.ensures))

pub write_behind-returns : goal.write_behind-returns
write_behind-returns t c = wrote_more (omega arith) c.put-part.ensures c.write_part.ensures
