use Rattle.std.proofs.Common.{◌≡◌, length, ap, ◌∙◌, rules}
use Rattle.refusal.specs.Answers.{and_then}
use Rattle.refusal.proofs.Exits.{handed_on}
use Rattle.fields.specs.Walked.{remaining, next}
use Rattle.fields.specs.Walked.Met.{took}
use Rattle.sheet.specs.Layout.{orderly}
use Rattle.sheet.proofs.Steps.{orderly_took}
use Rattle.sheet.proofs.reading.check_fields.Goals as goal

pub returns-in_err-due : goal.returns-in_err-due
returns-in_err-due c =
    let stop = length c.args.bytes.now in
    let ps = remaining c.loop-field.fields in
    let rest = remaining c.next.new.self in
    let x = c.in-Some.field in
    let met_it : took x.place x.tag x.body.now rest ≡ next ps = search rules in
    handed_on c.in_err-due.field-0.0 (λ u. u) c.from_residual-in_err-due.result c.from_residual-in_err-due.ensures.1
    ∙ ap (λ r. and_then r (λ d. orderly stop d rest)) c.in_err-due.ensures
    ∙ orderly_took stop c.loop-field.due ps x.place x.tag x.body.now rest met_it
    ∙ c.loop-field.invariant
