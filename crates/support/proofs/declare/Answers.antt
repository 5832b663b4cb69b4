use Rattle.std.proofs.Common.{rules, ◌≡◌, ◌<◌, [], false, length, eqb, Ok, Err, sym, ap, ◌∙◌, arith, lit<}
use Rattle.std.proofs.lemmas.Bool.Decides.{nat_tests}
use Rattle.std.proofs.lemmas.Iterator.Splits.{YieldsList-from_str_split}
use Rattle.std.specs.List.{slice_split}
use Rattle.std.specs.Str.Iter.{split_steps}
use Rattle.std.specs.Str.Pattern.{FindsChar}
use Rattle.refusal.specs.Answers.{said, and_then}
use Rattle.names.specs.Listed.{spelled_names}
use Rattle.names.specs.Names.{declared}
use Rattle.support.specs.Tables.{declared_all, listed}
use Rattle.support.proofs.Turns.{turn, ended, listed_some}
use Rattle.support.proofs.declare.Goals as goal

pub loop-word-init : goal.loop-word-init
loop-word-init c =
    let words = c.args.words.now in
    let full : eqb (length words) 0 ≡ false = sym c.is_empty.ensures ∙ c.if-is_empty.false in
    let some : 0 < length words = grind (arith, nat_tests) in
    let pieces = slice_split (λ b. eqb b 44) words in
    let cut = c.split-word-items.ensures in
    let all = (YieldsList-from_str_split 44 words (lit< tt) cut.text cut.has_more cut.pattern).runs in (
      pieces,
      rw c.into_iter-word-iterator.ensures.into_iter_gives all,
      ap (λ names. declared_all names pieces) c.none-names.ensures ∙ ap (declared_all []) (sym (listed_some words some)),
    )

pub loop-word-preserved : goal.loop-word-preserved
loop-word-preserved c =
    let i = c.loop-word.invariant in
    let old = spelled_names c.loop-word.names in
    let word = c.in-Some.word in
    let q = turn (split_steps FindsChar (λ a b. b ≡ a)) (λ x. x.now) c.loop-word.word-iterator c.next.new.self word c.in-Some.ensures.steps i.0 i.1 in
    let more : declared old word.now ≡ Ok (spelled_names c.declare.new.self) =
    ap (declared old) (sym c.as_bytes.ensures.value) ∙ sym c.in_ok-declare.ensures.outcome in
    (q.0, q.2, ap (λ r. and_then r (λ names. declared_all names q.0)) (sym more) ∙ ap (declared_all old) (sym q.1) ∙ i.2)

pub returns-in_err-declare : goal.returns-in_err-declare
returns-in_err-declare c =
    let i = c.loop-word.invariant in
    let old = spelled_names c.loop-word.names in
    let word = c.in-Some.word in
    let q = turn (split_steps FindsChar (λ a b. b ≡ a)) (λ x. x.now) c.loop-word.word-iterator c.next.new.self word c.in-Some.ensures.steps i.0 i.1 in
    let refused : declared old word.now ≡ Err (said c.in_err-declare.field-0.0) =
    ap (declared old) (sym c.as_bytes.ensures.value) ∙ sym c.in_err-declare.ensures.outcome in
    let all : declared_all [] (listed c.args.words.now) ≡ Err (said c.in_err-declare.field-0.0) =
    sym i.2 ∙ ap (declared_all old) q.1 ∙ ap (λ r. and_then r (λ names. declared_all names q.0)) refused in
    search (rules, all)

pub returns : goal.returns
returns c =
    let i = c.loop-word.invariant in
    let none = ended (split_steps FindsChar (λ a b. b ≡ a)) (λ x. x.now) c.loop-word.word-iterator c.next.new.self c.in-None.ensures.steps i.0 i.1 in
    ap (declared_all (spelled_names c.loop-word.names)) (sym none) ∙ i.2
