use Rattle.std.proofs.Common.{length, ◌∙◌, ◌≡◌, ◌≤◌, ◌+◌, take, drop, arith, rules}
use Rattle.std.proofs.lemmas.Grind.{common_steps}
use Rattle.std.proofs.lemmas.List.{take_rest}
use Rattle.fields.specs.Walked.{bytes_of}
use Rattle.fields.proofs.Stretch.{field_next}
use Rattle.fields.proofs.piece.Fields.next.Goals as goal

pub returns-in_ok-body-in-Some-len3-up-clause-outcome : goal.returns-in_ok-body-in-Some-len3-up-clause-outcome
returns-in_ok-body-in-Some-len3-up-clause-outcome c =
    let f = c.args.self.now in
    let rest = c.in-Some-len3-up.field-0.now in
    let body = c.in_ok-body-in-Some-len3-up.body.now in
    let long : 3 + c.from-length.result ≤ length rest = search (rules, common_steps) in
    let own : body ≡ take c.from-length.result (drop 3 rest) = grind (arith, common_steps) in
    field_next (bytes_of f) f.at c.from-length.result rest body
    (c.in-Some-len3-up.ensures.lookup.0.2 ∙ take_rest (bytes_of f) f.at) long (c.from-length.ensures ∙ c.from_be_bytes.ensures) own
