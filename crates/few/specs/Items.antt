-- What a list of a few items holds.
use Rattle.std.specs.Prelude.{ℕ, List, take}
use Rattle.few.specs.declared.held.Few.{Few}

-- the items in order; what stands in the places behind them means nothing
abbrev pub items : {T : Type 0} {N : ℕ} → Few T N → List T
items list = take list.count list.places
