use Rattle.std.proofs.Common.{◌≡◌, ℕ, ◌^◌, ◌<◌, ◌&&◌, ltb, length, get_or, sym, ap, ◌∙◌, ap₂, inl, inr, arith, rules}
use Rattle.std.proofs.lemmas.Bool.{cases_Bool, cases_lt, lt-ltb, le-ltb}
use Rattle.few.specs.Items.{items}
use Rattle.ltl.specs.Arena.{temporals}
use Rattle.rule.specs.Rules.{names_in, nodes_in}
use Rattle.forecast.specs.Forecasts.{possible, recast}
use Rattle.translate.specs.States.{member}
use Rattle.translate.proofs.Members.{set_of_same}
use Rattle.translate.proofs.Looked.{absent_row, row_at}
use Rattle.translate.proofs.Stepping.{possible_none}
use Rattle.translate.proofs.held.RuleAcceptor.carried.Goals as goal

pub passing-requires-clause-can : goal.passing-requires-clause-can
passing-requires-clause-can c = λ J h. let few : c.args.a < 64 = c.requires in search rules

pub returns : goal.returns
returns c = λ low.
    let x = c.args.self.now in
    let n = length (names_in x.rule) in
    let ns = nodes_in x.rule in
    let set = c.args.set.now in
    let a = c.args.a in
    let rows = c.as_slice-rows.result.now in
    let same = c.as_slice-rows.ensures.value in
    let many : length rows ≡ 2 ^ temporals ns = ap length same ∙ x.tabled.many in
    let looked : (J : ℕ) → J < length rows → member c.passing.result J ≡ (member x.possible J && member set (get_or (get_or rows J absent_row).recasts a 0)) =
    λ J h. elim (cases_Bool (member x.possible J)) [
      | inl within ↦
          let post = c.passing.ensures.answers J h within in
          let asked : member c.passing.result J ≡ member set (get_or (get_or rows J absent_row).recasts a 0) = search rules in
          asked ∙ sym (ap (λ b. b && member set (get_or (get_or rows J absent_row).recasts a 0)) within)
      | inr out ↦ c.passing.ensures.others J h out ∙ sym (ap (λ b. b && member set (get_or (get_or rows J absent_row).recasts a 0)) out)
    ] in
    let right : (J : ℕ) → J < 256 → (ltb J (length rows) && member c.passing.result J) ≡ (possible n ns J && member set (recast ns a J)) = λ J u. elim (cases_lt J (length rows)) [
      | inl h ↦
          ap (λ b. b && member c.passing.result J) (lt-ltb J (length rows) h) ∙ looked J h
          ∙ ap₂ (λ b K. b && member set K) (x.flagged J u) (ap (λ xs. get_or (get_or xs J absent_row).recasts a 0) same ∙ (row_at n ns (2 ^ temporals ns) (items x.rows) x.tabled J (omega (arith, many))).recasts a low)
      | inr h ↦
          ap (λ b. b && member c.passing.result J) (le-ltb J (length rows) h)
          ∙ sym (ap (λ b. b && member set (recast ns a J)) (possible_none n ns J (omega (arith, many))))
    ] in
    c.passing.ensures.only ∙ set_of_same _ _ right
