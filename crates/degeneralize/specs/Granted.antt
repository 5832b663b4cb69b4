-- What is granted a turned acceptor.
use Rattle.std.specs.Prelude.{ℕ, cond, Ok, Result, nat_le}
use Rattle.refusal.specs.declared.Layer.TheVariants.{Turn}
use Rattle.refusal.specs.Answers.{Said, refused}

-- an acceptor of at most 16 pairs is taken, and any other is refused
abbrev pub granted : {A : Type 0} → ℕ → A → Result A Said
granted count inner = cond (nat_le count 16) (Ok inner) (refused 13 Turn 0)
