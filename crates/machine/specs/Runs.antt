-- Runs of machines on endless words, and acceptance.
use Rattle.std.specs.Prelude.{◌≡◌, ℕ, zero, suc, ◌<◌, ◌≤◌, Bool, true, false}
use Rattle.ltl.specs.Words.{Word}
use Rattle.machine.specs.Machines.{Course, Machine}

-- the state after i letters
abbrev pub run : {S : Type 0} → Course S → Word → ℕ → S
run c w zero = c.start
run c w (suc i) = c.next (run c w i) (w i)

-- a state that some letters, or none, lead to
pub data Reached {S : Type 0} (c : Course S) : S → Type 0 where
  at_start : Reached c c.start
  by_letter : {s : S} → Reached c s → (a : ℕ) → Reached c (c.next s a)

-- only finitely many states of a run are in the set
abbrev pub Finitely : {S : Type 0} → (S → Bool) → (ℕ → S) → Type 0
Finitely test states = (n : ℕ) × ((i : ℕ) → n ≤ i → test (states i) ≡ false)

-- infinitely many are
abbrev pub Infinitely : {S : Type 0} → (S → Bool) → (ℕ → S) → Type 0
Infinitely test states = (n : ℕ) → (i : ℕ) × (n ≤ i) × (test (states i) ≡ true)

-- a word is accepted by a pair when its run meets the avoid set only finitely often and each visit set infinitely often
pub record AcceptedBy {S : Type 0} (m : Machine S) (w : Word) (p : ℕ) : Type 0 where
  pub pair : p < m.pairs.count
  pub avoids : Finitely (m.pairs.avoids p) (run m.course w)
  pub visits : (j : ℕ) → j < m.pairs.visits p → Infinitely (m.pairs.visited p j) (run m.course w)
