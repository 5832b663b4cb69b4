use Rattle.std.proofs.Common.{◌≡◌, ◌%◌, ◌^◌, ◌<◌, ◌&&◌, length, sym, ap, ◌∙◌, ap₂, subst, arith, mod-lt, mod-eq_of_lt}
use Rattle.outlook.proofs.Ruled.{few_letters}
use Rattle.std.proofs.lemmas.Nat.{pow_pos}
use Rattle.rule.specs.Rules.{nodes_in, names_in}
use Rattle.forecast.specs.Forecasts.{possible, recast}
use Rattle.forecast.specs.Rules.{stepped}
use Rattle.translate.specs.declared.state.Forecasts.{Forecasts}
use Rattle.translate.specs.declared.state.State.{State}
use Rattle.translate.specs.declared.state.State.TheVariants.{Obliged}
use Rattle.translate.specs.States.{rule_states, set_of, member}
use Rattle.translate.proofs.Stepping.{first_step}
use Rattle.translate.proofs.course.RuleAcceptorCourse.next.Goals as goal
use Rattle.translate.proofs.course.RuleAcceptorCourse.next.Goals.{in-Start, in-Obliged}

pub returns : goal.returns
returns c =
    let x = c.args.self.now in
    let n = length (names_in x.rule) in
    let ns = nodes_in x.rule in
    let letter = c.args.letter in
    let a = c.from.result % c.letter_count.result in
    let fits : a < 2 ^ n = subst (λ b. b < 2 ^ n) (sym (ap₂ ◌%◌ c.from.ensures c.letter_count.ensures.value)) (mod-lt letter (pow_pos n)) in
    let low : a ≡ letter % 2 ^ n = ap₂ ◌%◌ c.from.ensures c.letter_count.ensures.value in
    let next : Forecasts → State = λ set. Obliged (set_of (λ J. possible n ns J && member set (recast ns a J))) a in
    let by : State → State = λ s. stepped rule_states n ns s a in
    let step : Obliged c.carried.result a ≡ by c.args.state.now = ap (λ s. Obliged s a) (c.carried.ensures fits) ∙ (elim c.match-state.branch [
      | in-Start w ↦ ap next w.set-is ∙ first_step n ns a w.opening-set.result x.rule.temporal (w.opening-set.ensures (omega (arith, few_letters x.rule))) ∙ ap by (sym w.in-Start.is)
      | in-Obliged w ↦ ap next w.set-is ∙ ap by (sym w.in-Obliged.is)
    ]) in
    let value = step ∙ ap (stepped rule_states n ns c.args.state.now) low in
    record { value = value; low = value ∙ ap (stepped rule_states n ns c.args.state.now) (sym (mod-eq_of_lt (mod-lt letter (pow_pos n)))) }
