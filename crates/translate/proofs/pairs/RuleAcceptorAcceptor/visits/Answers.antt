use Rattle.std.proofs.Common.{length, ap, ◌∙◌}
use Rattle.few.specs.Items.{items}
use Rattle.translate.proofs.Answering.{found_at, visits_right}
use Rattle.translate.proofs.pairs.RuleAcceptorAcceptor.visits.Goals as goal

pub returns-in-Some-clause-value : goal.returns-in-Some-clause-value
returns-in-Some-clause-value c =
    let x = c.args.self.now in
    let look = c.in-Some.ensures.lookup in
    let found = found_at c.as_slice.result.now (items x.pairs) c.args.pair c.in-Some.pair.now c.as_slice.ensures.value look.3.0 look.1 in
    ap length c.as_slice-in-Some.ensures.value ∙ visits_right x c.args.pair c.in-Some.pair.now found
