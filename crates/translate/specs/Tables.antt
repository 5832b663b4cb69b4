-- What the tables of a rule's automaton hold.
use Rattle.std.specs.Prelude.{◌≡◌, ℕ, ◌-◌, ◌^◌, ◌<◌, Some, List, length, slice_get, slice_index}
use Rattle.ltl.specs.declared.Node.{Node}
use Rattle.forecast.specs.Forecasts.{holds_at, recast, possible}
use Rattle.forecast.specs.Bounded.{nth, count as passing}
use Rattle.forecast.specs.Steady.{steady}
use Rattle.outlook.specs.declared.pair.Pair.{Pair}
use Rattle.outlook.specs.Letters.{letters_where}
use Rattle.outlook.specs.Pairs.{PairOf}
use Rattle.translate.specs.declared.row.Row.{Row}
use Rattle.translate.specs.declared.state.Forecasts.{Forecasts}
use Rattle.translate.specs.States.{member}

-- the row of forecast j has its recasts, by letter, and the letters at which the rule holds under it
pub record RowOf (n : ℕ) (ns : List Node) (j : ℕ) (row : Row) : Type 0 where
  pub size : length row.recasts ≡ 64
  pub recasts : (a : ℕ) → a < 2 ^ n → slice_index row.recasts a ≡ recast ns a j
  pub root : row.root ≡ letters_where (λ a. holds_at ns a j (length ns - 1))

-- the rows of the first m forecasts
pub record Tabled (n : ℕ) (ns : List Node) (m : ℕ) (rows : List Row) : Type 0 where
  pub many : length rows ≡ m
  pub each : (j : ℕ) (row : Row) → slice_get rows j ≡ Some row → RowOf n ns j row

-- the set has just the possible forecasts
abbrev pub PossibleOnly : ℕ → List Node → Forecasts → Type 0
PossibleOnly n ns set = (j : ℕ) → j < 256 → member set j ≡ possible n ns j

-- the pairs of the steady ones among the first m forecasts, in order
pub record Listed (n : ℕ) (ns : List Node) (m : ℕ) (pairs : List Pair) : Type 0 where
  pub many : length pairs ≡ passing m (steady n ns)
  pub each : (p : ℕ) (pair : Pair) → slice_get pairs p ≡ Some pair → PairOf n ns (nth m (steady n ns) p) pair
