-- The judgement of a machine on a round.
use Rattle.std.specs.Prelude.{◌≡◌, ℕ, ◌+◌, ◌*◌, ◌<◌, ◌≤◌, List, length, Ok, Err, Result}
use Rattle.refusal.specs.declared.Layer.TheVariants.{Judge}
use Rattle.refusal.specs.Answers.{Said, refused}
use Rattle.ltl.specs.Rounds.{spelling}
use Rattle.round.specs.Letters.{sound}
use Rattle.machine.specs.Machines.{Machine}
use Rattle.machine.specs.Runs.{run, AcceptedBy}

pub data Judgement : Type 0 where
  -- the first accepting pair, and the passes
  accepted : ℕ → ℕ → Judgement
  rejected : ℕ → Judgement

module _ {S : Type 0} (m : Machine S) (lead cycle : List ℕ) where
  -- the state after the lead-in and j cycles more
  abbrev pub bound : ℕ → S
  bound j = run m.course (spelling lead cycle) (length lead + j * length cycle)

  -- state k at a cycle's end is an earlier one
  abbrev pub Recurs : ℕ → Type 0
  Recurs k = (j : ℕ) × (j < k) × (bound j ≡ bound k)

  -- the least number of passes, from 1, at which a state recurs
  pub record Passes (k : ℕ) : Type 0 where
    pub recurs : Recurs k
    pub least : (j : ℕ) → j < k → Recurs j → ⊥

  -- what a trail of `places` gives: the round's own refusal, a full trail where no number of passes fits, or the judgement
  pub data Judged (places : ℕ) : Result Judgement Said → Type 0 where
    unsound : (e : Said) → sound m.course.names lead cycle ≡ Err e → Judged places (Err e)
    full : sound m.course.names lead cycle ≡ Ok tt → ((k : ℕ) → k ≤ places → Passes k → ⊥) → Judged places (refused 19 Judge 0)
    yes_by : (p k : ℕ) → sound m.course.names lead cycle ≡ Ok tt → Passes k → k ≤ places → AcceptedBy m (spelling lead cycle) p → ((q : ℕ) → q < p → AcceptedBy m (spelling lead cycle) q → ⊥) → Judged places (Ok (accepted p k))
    no_pair : (k : ℕ) → sound m.course.names lead cycle ≡ Ok tt → Passes k → k ≤ places → ((p : ℕ) → AcceptedBy m (spelling lead cycle) p → ⊥) → Judged places (Ok (rejected k))

-- a judgement tells of a statement: where there is one, yes exactly when the statement holds
abbrev pub Tells : Type 0 → Result Judgement Said → Type 0
Tells P (Err e) = Unit {0}
Tells P (Ok (accepted p k)) = P
Tells P (Ok (rejected k)) = P → ⊥
