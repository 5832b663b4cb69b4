-- The declared names, as lists of bytes.
use Rattle.std.specs.Prelude.{ℕ, List}
use Rattle.names.specs.declared.list.Names.{Names}
use Rattle.names.specs.Spelled.{spelled_in}

abbrev pub spelled_names : Names → List (List ℕ)
spelled_names x = spelled_in x.list
