use Rattle.std.proofs.Common.{◌^◌, ◌≤◌, sym, arith, ap, ◌∙◌, pow_mono}
use Rattle.ltl.specs.Words.{bit}
use Rattle.bits.proofs.Bits.{bit_none}
use Rattle.bits.proofs.has_bit.Goals as goal

pub returns-then-k-ge64 : goal.returns-then-k-ge64
returns-then-k-ge64 g c =
    let wide : 2 ^ 64 ≤ 2 ^ c.args.k = pow_mono c.if-k-ge64.true in
    let word = c.widened-wide.result in
    sym (ap (bit c.args.k) (sym c.widened-wide.ensures) ∙ bit_none c.args.k word (omega (arith, c.widened-wide.type_inv)))
