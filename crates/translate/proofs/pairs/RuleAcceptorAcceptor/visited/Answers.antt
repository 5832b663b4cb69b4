use Rattle.std.proofs.Common.{◌%◌, get_or, sym, ap, ◌∙◌}
use Rattle.ltl.specs.Words.{bit}
use Rattle.few.specs.Items.{items}
use Rattle.translate.specs.Meaning.{rule_judges}
use Rattle.translate.proofs.Answering.{found_at, visited_right, visited_none}
use Rattle.translate.proofs.pairs.RuleAcceptorAcceptor.visited.Goals as goal

pub returns-in-Some-Obliged : goal.returns-in-Some-Obliged
returns-in-Some-Obliged c =
    let x = c.args.self.now in
    let p = c.args.pair in
    let j = c.args.set in
    let pair = c.in-Some-Obliged.pair.now in
    let letter = c.in-Some-Obliged.letter in
    let look = c.in-Some-Obliged.ensures.lookup in
    let found = found_at c.as_slice.result.now (items x.pairs) c.args.pair c.in-Some-Obliged.pair.now c.as_slice.ensures.value look.3.0 look.1 in
    let asked = c.in_set.ensures ∙ ap (λ xs. bit (letter % 64) (get_or xs j 0)) c.as_slice-in-Some-Obliged.ensures.value in
    record {
      value = asked ∙ visited_right x p pair found j c.in-Some-Obliged.forecasts-1 letter ∙ ap ((rule_judges x).visited p j) (sym c.in-Some-Obliged.is-1);
      none = λ h. asked ∙ visited_none x p pair found j letter h;
    }
