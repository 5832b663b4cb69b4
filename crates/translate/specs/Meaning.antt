-- What a rule's automaton means.
use Rattle.std.specs.Prelude.{length}
use Rattle.rule.specs.Rules.{nodes_in, names_in}
use Rattle.machine.specs.Machines.{Course, Pairs}
use Rattle.forecast.specs.Rules.{course_of, pairs_of}
use Rattle.translate.specs.declared.state.State.{State}
use Rattle.translate.specs.declared.held.RuleAcceptor.{RuleAcceptor}
use Rattle.translate.specs.States.{rule_states}

-- the course and the pairs that its rule defines
abbrev pub rule_moves : RuleAcceptor → Course State
rule_moves x = course_of rule_states (length (names_in x.rule)) (nodes_in x.rule)

abbrev pub rule_judges : RuleAcceptor → Pairs State
rule_judges x = pairs_of rule_states (length (names_in x.rule)) (nodes_in x.rule)
