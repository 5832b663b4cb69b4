-- The bytes of names that the code holds.
use Rattle.std.specs.Prelude.{ℕ, List, map}
use Rattle.few.specs.declared.held.Few.{Few}
use Rattle.few.specs.Items.{items}
use Rattle.names.specs.declared.name.Name.{Name}

abbrev pub spelled : Name → List ℕ
spelled x = items x.bytes

abbrev pub spelled_in : {N : ℕ} → Few Name N → List (List ℕ)
spelled_in list = map spelled (items list)
