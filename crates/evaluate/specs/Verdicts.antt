-- What the straight verdict promises.
use Rattle.std.specs.Prelude.{◌≡◌, ℕ, ◌+◌, Bool, cond, List, length, Ok, Err, Decides, Result, nat_lt}
use Rattle.refusal.specs.declared.Layer.TheVariants.{Round}
use Rattle.refusal.specs.Answers.{Said, refused, and_then}
use Rattle.ltl.specs.Formula.{Formula}
use Rattle.ltl.specs.Words.{Satisfies}
use Rattle.ltl.specs.Rounds.{spelling}
use Rattle.round.specs.Letters.{sound}

-- which refusals come before a verdict: the round's own, then a working row shorter than the round
abbrev pub ready : ℕ → List ℕ → List ℕ → ℕ → Result (Unit {0}) Said
ready n lead cycle row = and_then (sound n lead cycle) (λ _. cond (nat_lt row (length lead + length cycle)) (refused 20 Round 0) (Ok tt))

-- an answer is the refusal that is due, or yes exactly when the round's endless word satisfies the formula
abbrev pub Verdict : Result (Unit {0}) Said → Formula ℕ → List ℕ → List ℕ → Result Bool Said → Type 0
Verdict (Err e) φ lead cycle came = came ≡ Err e
Verdict (Ok u) φ lead cycle came = (b : Bool) × (came ≡ Ok b) × Decides b (Satisfies (spelling lead cycle) φ)
