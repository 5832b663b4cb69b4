-- What a judgement tells. Assumes nothing.
use Rattle.std.proofs.Common.{◌≡◌, ℕ, List, Ok, Result}
use Rattle.refusal.specs.Answers.{Said}
use Rattle.ltl.specs.Rounds.{spelling}
use Rattle.round.specs.Letters.{sound}
use Rattle.machine.specs.Machines.{Machine}
use Rattle.machine.specs.Runs.{AcceptedBy}
use Rattle.machine.specs.Judging.{Judgement, Judged, Tells}
use Rattle.machine.specs.Judging.Judged.{unsound, full, yes_by, no_pair}

-- where some pair accepts exactly when P holds, the judgement tells of P
pub judged_tells : {S : Type 0} (P : Type 0) (m : Machine S) (lead cycle : List ℕ) (places : ℕ)
    → (sound m.course.names lead cycle ≡ Ok tt → ((p : ℕ) × AcceptedBy m (spelling lead cycle) p → P) × (P → (p : ℕ) × AcceptedBy m (spelling lead cycle) p))
    → (o : Result Judgement Said) → Judged m lead cycle places o → Tells P o
judged_tells P m lead cycle places says o (unsound e s) = tt
judged_tells P m lead cycle places says o (full s f) = tt
judged_tells P m lead cycle places says o (yes_by p k s n l a f) = (says s).0 (p, a)
judged_tells P m lead cycle places says o (no_pair k s n l f) = λ h. let q = (says s).1 h in f q.0 q.1
