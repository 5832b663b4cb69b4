use Rattle.std.proofs.Common.{Err, length, sym, ap, subst, ◌∙◌}
use Rattle.refusal.specs.Answers.{said, answer}
use Rattle.refusal.proofs.Exits.{handed_on}
use Rattle.ltl.specs.Words.{Satisfies}
use Rattle.ltl.specs.Rounds.{spelling}
use Rattle.rule.specs.Rules.{nodes_in, names_in, formula_in}
use Rattle.machine.specs.Judging.{Judged, Tells}
use Rattle.machine.proofs.Telling.{judged_tells}
use Rattle.acceptor.specs.Said.{told, machine}
use Rattle.turning.specs.Turns.{turned}
use Rattle.turning.proofs.Turning.{machine_accepts, turned_accepts}
use Rattle.degeneralize.proofs.Granting.{granted_few, refused_many}
use Rattle.forecast.proofs.Says.{says_the_rule}
use Rattle.translate.specs.declared.held.RuleAcceptor.{RuleAcceptor}
use Rattle.translate.specs.Meaning.{rule_moves, rule_judges}
use Rattle.translate.specs.States.{rule_states}
use Rattle.translate.proofs.Answering.{ruled}
use Rattle.verdicts.specs.Turned.{TurnedJudged}
use Rattle.verdicts.specs.Turned.TurnedJudged.{many_pairs, by_turned}
use Rattle.verdicts.proofs.turned.judge_turned.Goals as goal

pub returns-in_err-turned : goal.returns-in_err-turned
returns-in_err-turned c =
    let x = c.args.acceptor.now in
    let m = machine (rule_moves x) (rule_judges x) in
    let lead = c.args.round.lead.now in
    let cycle = c.args.round.cycle.now in
    let r = refused_many m.pairs.count x (said c.in_err-turned.field-0.0) c.in_err-turned.ensures in
    let handed = handed_on c.in_err-turned.field-0.0 told c.from_residual.result c.from_residual.ensures.1 in
    record {
      judged = subst (TurnedJudged m lead cycle (length c.args.trail.now)) (sym (handed ∙ ap Err r.1)) (many_pairs r.0);
      satisfied = subst (Tells (Satisfies (spelling lead cycle) (formula_in x.rule))) (sym handed) tt;
    }

pub returns : goal.returns
returns c =
    let x = c.args.acceptor.now in
    let m = machine (rule_moves x) (rule_judges x) in
    let lead = c.args.round.lead.now in
    let cycle = c.args.round.cycle.now in
    let w = spelling lead cycle in
    let g = granted_few m.pairs.count x c.in_ok-turned.turned.inner.now c.in_ok-turned.ensures in
    let judged = subst (λ (a : RuleAcceptor). Judged (turned (machine (rule_moves a) (rule_judges a))) lead cycle (length c.args.trail.now) (answer told c.judge.result)) g.1 c.judge.ensures in
    record {
      judged = by_turned g.0 judged;
      satisfied = judged_tells (Satisfies w (formula_in x.rule)) (turned m) lead cycle (length c.args.trail.now)
          (λ s. let says = says_the_rule rule_states (length (names_in x.rule)) (nodes_in x.rule) (ruled x.rule) lead cycle s in
          ((λ a. says.0 (a.0, machine_accepts m g.0 w a.0 a.1)), (λ h. let q = says.1 h in (q.0, turned_accepts m g.0 w q.0 q.1)))) _ judged;
    }
