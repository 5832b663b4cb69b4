use Rattle.std.proofs.Common.{not, refl, sym, ◌∙◌, arith, ap, Ok}
use Rattle.std.proofs.lemmas.Bool.{cond-true, cond-false, lt-ltb, le-ltb}
use Rattle.std.specs.Str.{bytes_eq}
use Rattle.refusal.proofs.Exits.{told}
use Rattle.ltl.proofs.Search.{found_some, found_none}
use Rattle.names.specs.Listed.{spelled_names}
use Rattle.names.proofs.Rows.{names_few}
use Rattle.rule.proofs.reader.Reader.number_of.Goals as goal

pub overflow_cast-result : goal.overflow_cast-result
overflow_cast-result c =
    let w = c.args.word.now in
    let names = c.args.self.now.names.now in
    let found = found_some (bytes_eq w) (λ y. not (bytes_eq w y)) (λ y. refl) (spelled_names names) c.in-Some.k (sym c.find.ensures ∙ c.in-Some.is) in
    omega (arith, names_few names)

pub returns-in-Some : goal.returns-in-Some
returns-in-Some c =
    let w = c.args.word.now in
    let found = found_some (bytes_eq w) (λ y. not (bytes_eq w y)) (λ y. refl) (spelled_names c.args.self.now.names.now) c.in-Some.k (sym c.find.ensures ∙ c.in-Some.is) in
    ap Ok found.0 ∙ sym (cond-true _ _ _ (lt-ltb _ _ found.1))

pub returns-in-None : goal.returns-in-None
returns-in-None c =
    let w = c.args.word.now in
    let none = found_none (bytes_eq w) (λ y. not (bytes_eq w y)) (λ y. refl) (spelled_names c.args.self.now.names.now) (sym c.find.ensures ∙ c.in-None.is) in
    told c.new.ensures ∙ sym (cond-false _ _ _ (le-ltb _ _ none))
