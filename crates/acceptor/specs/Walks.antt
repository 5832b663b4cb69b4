-- Walks of a course over letters and cycles, and what is met on the way.
use Rattle.std.specs.Prelude.{◌≡◌, ℕ, zero, suc, ◌<◌, ◌≤◌, Bool, true, false, not, ◌&&◌, ◌||◌, List, length, get_or, ◌≢◌, slice_index, slice_index_or}
use Rattle.machine.specs.Machines.{Course, Machine}

-- the state after the first i letters, from the state s
abbrev pub along : {S : Type 0} → Course S → S → List ℕ → ℕ → S
along c s letters zero = s
along c s letters (suc i) = c.next (along c s letters i) (slice_index letters i)

-- the state after k whole cycles
abbrev pub turned : {S : Type 0} → Course S → S → List ℕ → ℕ → S
turned c s cycle zero = s
turned c s cycle (suc k) = along c (turned c s cycle k) cycle (length cycle)

-- no two of the states up to number n are equal
abbrev pub Apart : {S : Type 0} → (ℕ → S) → ℕ → Type 0
Apart b n = (i j : ℕ) → i < j → j ≤ n → b i ≢ b j

-- the first k places of the trail have the first k states, all apart, and `state` is the next; d stands for what is past the trail's end
pub record Underway {S : Type 0} (b : ℕ → S) (trail : List S) (d : S) (k : ℕ) (state : S) : Type 0 where
  pub here : state ≡ b k
  pub kept : (i : ℕ) → i < k → slice_index_or trail i d ≡ b i
  pub apart : Apart b k

-- state number `passes` is the first that is an earlier one, number `from`, which the trail has
pub record Closes {S : Type 0} (b : ℕ → S) (trail : List S) (d : S) (from passes : ℕ) : Type 0 where
  pub earlier : from < passes
  pub fits : passes ≤ length trail
  pub again : b from ≡ b passes
  pub first : (i j : ℕ) → i < j → j < passes → b i ≢ b j
  pub kept : get_or trail from d ≡ b from

-- the test passes at some number below n; at all of them
abbrev pub some : (ℕ → Bool) → ℕ → Bool
some test zero = false
some test (suc n) = some test n || test n

abbrev pub all : (ℕ → Bool) → ℕ → Bool
all test zero = true
all test (suc n) = all test n && test n

-- no number below n passes the test; k is the first that does
abbrev pub NoneBelow : (ℕ → Bool) → ℕ → Type 0
NoneBelow test n = (i : ℕ) → i < n → test i ≡ false

pub record FirstBelow (test : ℕ → Bool) (n k : ℕ) : Type 0 where
  pub inside : k < n
  pub passes : test k ≡ true
  pub first : NoneBelow test k

-- one cycle from the state s meets a state of the set
abbrev pub cycle_meets : {S : Type 0} → Course S → S → List ℕ → (S → Bool) → Bool
cycle_meets c s cycle test = some (λ i. test (along c s cycle i)) (length cycle)

-- n cycles do
abbrev pub meets : {S : Type 0} → Course S → S → List ℕ → (S → Bool) → ℕ → Bool
meets c s cycle test n = some (λ t. cycle_meets c (turned c s cycle t) cycle test) n

-- n cycles from s are in favour of a pair: nothing to avoid, and of each visit set a state
abbrev pub favours : {S : Type 0} → Machine S → S → List ℕ → ℕ → ℕ → Bool
favours m s cycle n pair =
    not (meets m.course s cycle (m.pairs.avoids pair) n) && all (λ set. meets m.course s cycle (m.pairs.visited pair set) n) (m.pairs.visits pair)

-- the first n letters of a cycle from s walked, to the state `end`, with nothing to avoid before it, and the visits up to it noted
pub record Crossed {S : Type 0} (m : Machine S) (pair : ℕ) (s : S) (cycle : List ℕ) (n : ℕ) (before after : List Bool) (end : S) : Type 0 where
  pub clear : some (λ i. m.pairs.avoids pair (along m.course s cycle i)) n ≡ false
  pub arrives : end ≡ along m.course s cycle n
  pub notes : (set : ℕ) → set < length before →
      slice_index_or after set false ≡ (slice_index_or before set false || some (λ i. m.pairs.visited pair set (along m.course s cycle i)) n)

-- n whole cycles walked in the same way, from no marks
pub record Toured {S : Type 0} (m : Machine S) (pair : ℕ) (s : S) (cycle : List ℕ) (n : ℕ) (met : List Bool) (end : S) : Type 0 where
  pub clear : meets m.course s cycle (m.pairs.avoids pair) n ≡ false
  pub arrives : end ≡ turned m.course s cycle n
  pub notes : (set : ℕ) → set < length met → slice_index_or met set false ≡ meets m.course s cycle (m.pairs.visited pair set) n
