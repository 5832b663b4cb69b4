use Rattle.std.proofs.Common.{◌+◌, ◌^◌, cond, sym, ap, ◌∙◌}
use Rattle.bits.proofs.Bits.{or_put}
use Rattle.evaluate.proofs.subformula.Subformula.mark.Goals as goal

pub returns-then-is_set-clause-put : goal.returns-then-is_set-clause-put
returns-then-is_set-clause-put c = λ low.
    let k = c.args.self.now.number in
    let word = c.args.word.now in
    or_put k word 32 c.args.self.now.few low ∙ ap (λ b. word + cond b (2 ^ k) 0) (sym c.if-is_set.true)
