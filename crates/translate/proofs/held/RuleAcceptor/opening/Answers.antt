use Rattle.std.proofs.Common.{◌≡◌, ℕ, ◌-◌, ◌^◌, ◌<◌, ◌&&◌, ltb, length, get_or, sym, ap, ◌∙◌, inl, inr, arith, rules}
use Rattle.std.proofs.lemmas.Bool.{cases_lt, lt-ltb, le-ltb}
use Rattle.few.specs.Items.{items}
use Rattle.ltl.specs.Words.{bit}
use Rattle.ltl.specs.Arena.{temporals}
use Rattle.bits.proofs.Collected.{gathered_at}
use Rattle.rule.specs.Rules.{names_in, nodes_in}
use Rattle.forecast.specs.Forecasts.{holds_at}
use Rattle.translate.specs.States.{member}
use Rattle.translate.proofs.Members.{set_of_same, member_everything}
use Rattle.translate.proofs.Looked.{absent_row, row_at}
use Rattle.translate.proofs.held.RuleAcceptor.opening.Goals as goal

pub returns : goal.returns
returns c = λ low.
    let x = c.args.self.now in
    let n = length (names_in x.rule) in
    let ns = nodes_in x.rule in
    let a = c.args.a in
    let rows = c.as_slice-rows.result.now in
    let same = c.as_slice-rows.ensures.value in
    let many : length rows ≡ 2 ^ temporals ns = ap length same ∙ x.tabled.many in
    let looked : (K : ℕ) → K < length rows → member c.passing.result K ≡ bit a (get_or rows K absent_row).root =
    λ K h. let post = c.passing.ensures.answers K h (member_everything K (omega (arith, h, c.as_slice-rows.ensures.few))) in search rules in
    let right : (K : ℕ) → K < 256 → (ltb K (length rows) && member c.passing.result K) ≡ (ltb K (2 ^ temporals ns) && holds_at ns a K (length ns - 1)) = λ K u. elim (cases_lt K (length rows)) [
      | inl h ↦
          ap (λ b. b && member c.passing.result K) (lt-ltb K (length rows) h) ∙ looked K h
          ∙ ap (λ xs. bit a (get_or xs K absent_row).root) same ∙ ap (bit a) (row_at n ns (2 ^ temporals ns) (items x.rows) x.tabled K (omega (arith, many))).root
          ∙ gathered_at (λ b. holds_at ns b K (length ns - 1)) 64 a low
          ∙ sym (ap (λ b. b && holds_at ns a K (length ns - 1)) (lt-ltb K (2 ^ temporals ns) (omega (arith, many))))
      | inr h ↦
          ap (λ b. b && member c.passing.result K) (le-ltb K (length rows) h)
          ∙ sym (ap (λ b. b && holds_at ns a K (length ns - 1)) (le-ltb K (2 ^ temporals ns) (omega (arith, many))))
    ] in
    c.passing.ensures.only ∙ set_of_same _ _ right
