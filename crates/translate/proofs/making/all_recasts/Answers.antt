use Rattle.std.proofs.Common.{◌^◌, eqb, length, take, ap, ◌∙◌, arith}
use Rattle.std.specs.List.{list_any}
use Rattle.std.proofs.lemmas.List.{take_all}
use Rattle.ltl.specs.Arena.{temporals}
use Rattle.rule.specs.Rules.{names_in, nodes_in}
use Rattle.translate.specs.declared.row.Row.{Row}
use Rattle.translate.proofs.Looked.{some_row}
use Rattle.translate.proofs.making.all_recasts.Goals as goal

pub returns : goal.returns
returns c = λ J h.
    let ns = nodes_in c.args.rule.now in
    let rows = c.args.rows.now in
    let letters = c.letter_count-letters.result in
    c.loop-row.invariant J h
    ∙ ap (list_any (λ (row : Row). list_any (λ K. eqb K J) (take letters row.recasts))) (take_all c.loop-row.row-index rows (omega arith))
    ∙ some_row (length (names_in c.args.rule.now)) ns (2 ^ temporals ns) rows c.requires letters c.letter_count-letters.ensures.value c.letter_count-letters.ensures.few J
