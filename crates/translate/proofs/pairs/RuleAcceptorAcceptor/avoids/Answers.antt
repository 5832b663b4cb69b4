use Rattle.std.proofs.Common.{sym, ap, ◌∙◌}
use Rattle.few.specs.Items.{items}
use Rattle.translate.specs.Meaning.{rule_judges}
use Rattle.translate.proofs.Answering.{found_at, avoids_right}
use Rattle.translate.proofs.pairs.RuleAcceptorAcceptor.avoids.Goals as goal

pub returns-in-Some-Obliged-clause-value : goal.returns-in-Some-Obliged-clause-value
returns-in-Some-Obliged-clause-value c =
    let x = c.args.self.now in
    let pair = c.in-Some-Obliged.pair.now in
    let look = c.in-Some-Obliged.ensures.lookup in
    let found = found_at c.as_slice.result.now (items x.pairs) c.args.pair c.in-Some-Obliged.pair.now c.as_slice.ensures.value look.3.0 look.1 in
    c.avoided.ensures ∙ avoids_right x c.args.pair pair found c.in-Some-Obliged.forecasts c.in-Some-Obliged.letter
    ∙ ap ((rule_judges x).avoids c.args.pair) (sym c.in-Some-Obliged.is-1)
