use Rattle.std.proofs.Common.{length, sym, ap, ◌∙◌, subst, arith}
use Rattle.std.proofs.lemmas.Option.{MatchOption-at_none, MatchOption-at_some}
use Rattle.refusal.proofs.Exits.{handed_on, told as retold}
use Rattle.round.specs.Letters.{sound}
use Rattle.machine.specs.Judging.{Judged}
use Rattle.machine.specs.Judging.Judged.{unsound}
use Rattle.acceptor.specs.Said.{told, machine}
use Rattle.acceptor.proofs.Verdicts.{or_error, apart_full, first_told}
use Rattle.acceptor.proofs.judge.judge.Goals as goal

pub returns-in_err-check : goal.returns-in_err-check
returns-in_err-check g c =
    let m = machine (g.A.Course.moves c.args.acceptor.now) (g.A.Acceptor.judges c.args.acceptor.now) in
    let same = ap (λ n. sound n c.args.round.lead.now c.args.round.cycle.now) (sym c.names.ensures.value) in
    subst (Judged m c.args.round.lead.now c.args.round.cycle.now (length c.args.trail.now))
    (sym (handed_on c.in_err-check.field-0.0 told c.from_residual.result c.from_residual.ensures.1))
    (unsound _ (same ∙ sym c.in_err-check.ensures))

pub returns-in_err-from : goal.returns-in_err-from
returns-in_err-from g c =
    let m = machine (g.A.Course.moves c.args.acceptor.now) (g.A.Acceptor.judges c.args.acceptor.now) in
    let none = c.in_err-from.ensures in
    let full = or_error c.close.result none.value none.ok_part in
    let handed = handed_on c.in_err-from.field-0.0 told c.from_residual-in_err-from.result c.from_residual-in_err-from.ensures.1 in
    subst (Judged m c.args.round.lead.now c.args.round.cycle.now (length c.args.trail.now)) (sym (handed ∙ retold (full ∙ c.new-full.ensures)))
    (apart_full m c.args.round.lead.now c.args.round.cycle.now
    c.names.ensures.value c.in_ok-check.ensures c.start.ensures c.after-first.ensures
    (length c.args.trail.now) (MatchOption-at_none _ _ none.ok_part c.close.ensures))

pub returns : goal.returns
returns g c =
    let m = machine (g.A.Course.moves c.args.acceptor.now) (g.A.Acceptor.judges c.args.acceptor.now) in
    let some = c.in_ok-from.ensures in
    first_told m c.args.round.lead.now c.args.round.cycle.now
    c.names.ensures.value c.in_ok-check.ensures c.start.ensures c.after-first.ensures
    (MatchOption-at_some _ _ _ some.ok_part c.close.ensures) c.index-trail-from.is c.first_favoured.result (omega arith) c.first_favoured.ensures
