use Rattle.std.proofs.Common.{not, length, ap, sym, ◌∙◌, arith}
use Rattle.std.specs.List.{position_from}
use Rattle.ltl.proofs.Search.{found_some}
use Rattle.round.specs.Letters.{within}
use Rattle.round.proofs.Letterwise.{opposite, position_first, position_second, position_moved, position_nowhere}
use Rattle.round.proofs.Round.first_beyond.Goals as goal

pub returns-in-Some : goal.returns-in-Some
returns-in-Some c = sym (position_first (λ l. not (within c.args.n l)) 0 c.in-Some.place c.args.self.now.lead.now c.args.self.now.cycle.now (sym c.in-Some.ensures))

pub returns-in_err-place : goal.returns-in_err-place
returns-in_err-place c =
    let lead = c.args.self.now.lead.now in
    let cycle = c.args.self.now.cycle.now in
    c.from_residual.ensures
    ∙ sym (position_second (λ l. not (within c.args.n l)) 0 lead cycle (sym c.first_foreign.ensures ∙ c.in_default.is)
    ∙ ap (λ k. position_from (λ l. not (within c.args.n l)) k cycle) (omega arith)
    ∙ position_nowhere (λ l. not (within c.args.n l)) (length lead) 0 cycle (sym c.in_err-place.ensures))

pub overflow_add-result : goal.overflow_add-result
overflow_add-result c =
    let found = found_some (λ l. not (within c.args.n l)) (within c.args.n) (λ l. opposite (within c.args.n l)) c.args.self.now.cycle.now c.in_ok-place.place (sym c.in_ok-place.ensures) in
    omega (arith, found.0, found.1)

pub returns : goal.returns
returns c =
    let lead = c.args.self.now.lead.now in
    let cycle = c.args.self.now.cycle.now in
    sym (position_second (λ l. not (within c.args.n l)) 0 lead cycle (sym c.first_foreign.ensures ∙ c.in_default.is)
    ∙ ap (λ k. position_from (λ l. not (within c.args.n l)) k cycle) (omega arith)
    ∙ position_moved (λ l. not (within c.args.n l)) (length lead) 0 c.in_ok-place.place cycle (sym c.in_ok-place.ensures))
