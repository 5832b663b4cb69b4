use Rattle.std.proofs.Common.{length}
use Rattle.ltl.specs.Words.{Satisfies}
use Rattle.ltl.specs.Rounds.{spelling}
use Rattle.rule.specs.Rules.{nodes_in, names_in, formula_in}
use Rattle.machine.proofs.Telling.{judged_tells}
use Rattle.forecast.specs.Rules.{machine_of}
use Rattle.forecast.proofs.Says.{says_the_rule}
use Rattle.translate.specs.States.{rule_states}
use Rattle.translate.proofs.Answering.{ruled}
use Rattle.verdicts.proofs.bare.judge_bare.Goals as goal

pub returns : goal.returns
returns c =
    let rule = c.args.acceptor.now.rule in
    let n = length (names_in rule) in
    let ns = nodes_in rule in
    let lead = c.args.round.lead.now in
    let cycle = c.args.round.cycle.now in
    record {
      judged = c.judge.ensures;
      satisfied = judged_tells (Satisfies (spelling lead cycle) (formula_in rule)) (machine_of rule_states n ns) lead cycle (length c.args.trail.now)
          (says_the_rule rule_states n ns (ruled rule) lead cycle) _ c.judge.ensures;
    }
