use Rattle.std.proofs.Common.{◌≡◌, ℕ, ◌<◌, ◌||◌, eqb, take}
use Rattle.std.specs.List.{list_any}
use Rattle.translate.specs.States.{member}
use Rattle.translate.proofs.state.Forecasts.insert_all.Given as goal

abbrev pub invariant-loop-forecast : goal.invariant-loop-forecast
invariant-loop-forecast l =
    (J : ℕ) → J < 256 → member l.self J ≡ (member l.initial.self J || list_any (λ K. eqb K J) (take l.forecast-index l.forecasts))
