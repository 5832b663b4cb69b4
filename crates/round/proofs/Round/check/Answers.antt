use Rattle.std.proofs.Common.{sym, ◌∙◌, arith, ap, Err}
use Rattle.std.proofs.lemmas.Bool.Decides.{nat_tests}
use Rattle.refusal.specs.Answers.{answer}
use Rattle.round.proofs.Letterwise.{refused_beyond, granted_within}
use Rattle.round.proofs.Round.check.Goals as goal

pub returns-in-Some : goal.returns-in-Some
returns-in-Some c =
    let round = c.args.self.now in
    ap (λ r. answer (λ u. u) (Err r)) c.new-in-Some.ensures
    ∙ refused_beyond c.args.n round.lead.now round.cycle.now (omega arith) (grind (arith, nat_tests)) c.in-Some.place (sym c.in-Some.is ∙ c.first_beyond.ensures)

pub returns-in-None : goal.returns-in-None
returns-in-None c =
    let round = c.args.self.now in
    granted_within c.args.n round.lead.now round.cycle.now (omega arith) (grind (arith, nat_tests)) (sym c.in-None.is ∙ c.first_beyond.ensures)
