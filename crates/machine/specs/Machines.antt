-- Deterministic machines with generalized Rabin pairs, over any type of states.
use Rattle.std.specs.Prelude.{◌≡◌, ℕ, ◌%◌, ◌^◌, ◌≤◌, Bool, false}

-- what a course means: the number of names, a start, and a next state for each state and letter
pub record Course (S : Type 0) : Type 0 where
  pub names : ℕ
  pub start : S
  pub next : S → ℕ → S

-- what an acceptor adds: pairs, each with an avoid set and visit sets
pub record Pairs (S : Type 0) : Type 0 where
  pub count : ℕ
  -- how many visit sets a pair has
  pub visits : ℕ → ℕ
  -- whether a state is in the avoid set of a pair
  pub avoids : ℕ → S → Bool
  -- whether a state is in a visit set of a pair, counted from 0
  pub visited : ℕ → ℕ → S → Bool

pub record Machine (S : Type 0) : Type 0 where
  pub course : Course S
  pub pairs : Pairs S

-- the limits that every acceptor keeps: letters count by their low bits only, and there is nothing beyond a count
pub record Limits {S : Type 0} (m : Machine S) : Type 0 where
  pub few_names : m.course.names ≤ 6
  pub low_bits : (s : S) (a : ℕ) → m.course.next s a ≡ m.course.next s (a % 2 ^ m.course.names)
  pub few_pairs : m.pairs.count ≤ 256
  pub few_visits : (p : ℕ) → m.pairs.visits p ≤ 15
  pub no_pair : (p : ℕ) (s : S) → m.pairs.count ≤ p → m.pairs.avoids p s ≡ false
  pub no_visits : (p : ℕ) → m.pairs.count ≤ p → m.pairs.visits p ≡ 0
  pub no_set : (p j : ℕ) (s : S) → m.pairs.visits p ≤ j → m.pairs.visited p j s ≡ false
