use Rattle.std.proofs.Common.{◌≡◌, ◌<◌, true, false, [], ◌∷◌, ◌++◌, length, Ok, sym, ap, ◌∙◌, arith, rules, is_some}
use Rattle.refusal.specs.declared.Layer.TheVariants.{Names}
use Rattle.refusal.specs.Answers.{refused}
use Rattle.refusal.proofs.Exits.{told}
use lib.ListN.{length-map}
use Rattle.few.specs.Items.{items}
use Rattle.few.proofs.Granted.{granted}
use Rattle.names.specs.Names.{has, proper}
use Rattle.names.specs.Spelled.{spelled, spelled_in}
use Rattle.names.specs.Listed.{spelled_names}
use Rattle.names.proofs.Rows.{found_has, names_push}
use Rattle.names.proofs.Proper.{proper_push, declared_repeated, declared_granted}
use Rattle.names.proofs.list.Names.declare.Goals as goal

pub returns-then-is_some-clause-outcome : goal.returns-then-is_some-clause-outcome
returns-then-is_some-clause-outcome c =
    let names = spelled_names c.args.self.now in
    let w = c.args.word.now in
    let found : has names w ≡ true = sym (found_has names w) ∙ ap is_some (sym c.find.ensures) ∙ sym c.is_some.ensures ∙ c.if-is_some.true in
    told c.new-then-is_some.ensures ∙ ap (refused 2 Names) c.len-at.ensures.value ∙ sym (declared_repeated names w (omega arith) (sym c.if-not-is_well_formed.ensures) found)

pub invariant_of-self : goal.invariant_of-self
invariant_of-self c =
    let x = c.args.self.now in
    let w = c.args.word.now in
    let new : has (spelled_names x) w ≡ false = sym (found_has (spelled_names x) w) ∙ ap is_some (sym c.find.ensures) ∙ sym c.is_some.ensures ∙ c.if-is_some.false in
    let room : length (items x.list) < 6 = omega (arith, length-map (items x.list) spelled) in
    let row : spelled_in c.push.new.self ≡ spelled_names x ++ (w ∷ []) = names_push x.list c.push.new.self c.unwrap.result w (granted c.push.result c.push.ensures.room.1 c.push.ensures.ok room) (search rules) in
    record { sound = ap proper row ∙ proper_push (spelled_names x) w x.sound (sym c.if-not-is_well_formed.ensures) new }

pub returns-clause-outcome : goal.returns-clause-outcome
returns-clause-outcome c =
    let x = c.args.self.now in
    let w = c.args.word.now in
    let new : has (spelled_names x) w ≡ false = sym (found_has (spelled_names x) w) ∙ ap is_some (sym c.find.ensures) ∙ sym c.is_some.ensures ∙ c.if-is_some.false in
    let row : spelled_in c.push.new.self ≡ spelled_names x ++ (w ∷ []) = names_push x.list c.push.new.self c.unwrap.result w (search rules) (search rules) in
    ap Ok row ∙ sym (declared_granted (spelled_names x) w (omega arith) (sym c.if-not-is_well_formed.ensures) new)
