-- A round judged by the turned machine of a machine.
use Rattle.std.specs.Prelude.{ℕ, ◌<◌, ◌≤◌, List, Result}
use Rattle.refusal.specs.declared.Layer.TheVariants.{Turn}
use Rattle.refusal.specs.Answers.{Said, refused}
use Rattle.machine.specs.Machines.{Machine}
use Rattle.machine.specs.Judging.{Judgement, Judged}
use Rattle.turning.specs.Turns.{turned}

-- the turned machine's judgement, or a refusal where there are more than 16 pairs
pub data TurnedJudged {S : Type 0} (m : Machine S) (lead cycle : List ℕ) (places : ℕ) : Result Judgement Said → Type 0 where
  many_pairs : 16 < m.pairs.count → TurnedJudged m lead cycle places (refused 13 Turn 0)
  by_turned : {o : Result Judgement Said} → m.pairs.count ≤ 16 → Judged (turned m) lead cycle places o → TurnedJudged m lead cycle places o
