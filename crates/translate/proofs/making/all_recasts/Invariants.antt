use Rattle.std.proofs.Common.{◌≡◌, ℕ, ◌<◌, eqb, take}
use Rattle.std.specs.List.{list_any}
use Rattle.translate.specs.States.{member}
use Rattle.translate.proofs.making.all_recasts.Given as goal

abbrev pub invariant-loop-row : goal.invariant-loop-row
invariant-loop-row l =
    (J : ℕ) → J < 256 → member l.recasts J ≡ list_any (λ row. list_any (λ K. eqb K J) (take l.letters row.recasts)) (take l.row-index l.rows)
