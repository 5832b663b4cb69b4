use Rattle.std.proofs.Common.{◌^◌, ◌≤◌, arith, pow_mono}
use Rattle.std.proofs.lemmas.Nat.{one_shl}
use Rattle.rule.proofs.held.Rule.letter_count.Goals as goal

pub returns-clause-few : goal.returns-clause-few
returns-clause-few c =
    let n = c.name_count.result in
    let few : 2 ^ n ≤ 2 ^ 6 = pow_mono c.name_count.ensures.few in
    omega (arith, one_shl n 64 (omega (arith, c.name_count.ensures.few)))
