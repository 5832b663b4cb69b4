-- Laws of judging, for every machine.
use Rattle.std.specs.Prelude.{◌≡◌, ℕ, ◌+◌, ◌*◌, ◌<◌, ◌≤◌, Bool, true, false, List, length, Result}
use Rattle.refusal.specs.Answers.{Said}
use Rattle.ltl.specs.Rounds.{spelling}
use Rattle.machine.specs.Machines.{Machine}
use Rattle.machine.specs.Runs.{run, Reached, Finitely, Infinitely}
use Rattle.machine.specs.Judging.{Judgement, bound, Judged}

-- a judgement is unique
abbrev pub OneJudgement : Type 0 → Type 0
OneJudgement S = (m : Machine S) (lead cycle : List ℕ) (places : ℕ) (o o' : Result Judgement Said) → Judged m lead cycle places o → Judged m lead cycle places o' → o ≡ o'

-- where a state recurs, the stretch between decides what is met for ever
pub record Loops {S : Type 0} (m : Machine S) (lead cycle : List ℕ) (j k : ℕ) (test : S → Bool) : Type 0 where
  pub finite : Finitely test (run m.course (spelling lead cycle)) → (i : ℕ) → length lead + j * length cycle ≤ i → i < length lead + k * length cycle → test (run m.course (spelling lead cycle) i) ≡ false
  pub finite_back : ((i : ℕ) → length lead + j * length cycle ≤ i → i < length lead + k * length cycle → test (run m.course (spelling lead cycle) i) ≡ false) → Finitely test (run m.course (spelling lead cycle))
  pub infinite : Infinitely test (run m.course (spelling lead cycle)) → (i : ℕ) × (length lead + j * length cycle ≤ i) × (i < length lead + k * length cycle) × (test (run m.course (spelling lead cycle) i) ≡ true)
  pub infinite_back : (i : ℕ) → length lead + j * length cycle ≤ i → i < length lead + k * length cycle → test (run m.course (spelling lead cycle) i) ≡ true → Infinitely test (run m.course (spelling lead cycle))

abbrev pub Looping : Type 0 → Type 0
Looping S = (m : Machine S) (lead cycle : List ℕ) → 0 < length cycle → (j k : ℕ) → j < k → bound m lead cycle j ≡ bound m lead cycle k → (test : S → Bool) → Loops m lead cycle j k test

-- two machines whose runs correspond: a map of states that is one to one on what is reached, and keeps start, next, counts and memberships
pub record Corresponds {S T : Type 0} (m : Machine S) (n : Machine T) (f : S → T) : Type 0 where
  pub names : m.course.names ≡ n.course.names
  pub start : f m.course.start ≡ n.course.start
  pub next : (s : S) (a : ℕ) → Reached m.course s → f (m.course.next s a) ≡ n.course.next (f s) a
  pub apart : (s t : S) → Reached m.course s → Reached m.course t → f s ≡ f t → s ≡ t
  pub count : m.pairs.count ≡ n.pairs.count
  pub visits : (p : ℕ) → m.pairs.visits p ≡ n.pairs.visits p
  pub avoids : (p : ℕ) (s : S) → Reached m.course s → m.pairs.avoids p s ≡ n.pairs.avoids p (f s)
  pub visited : (p j : ℕ) (s : S) → Reached m.course s → m.pairs.visited p j s ≡ n.pairs.visited p j (f s)

-- such machines are judged alike, refusals and passes included
abbrev pub JudgedAlike : Type 0 → Type 0 → Type 0
JudgedAlike S T = (m : Machine S) (n : Machine T) (f : S → T) → Corresponds m n f → (lead cycle : List ℕ) (places : ℕ) (o : Result Judgement Said) → (Judged m lead cycle places o → Judged n lead cycle places o) × (Judged n lead cycle places o → Judged m lead cycle places o)
