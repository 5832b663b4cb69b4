-- The turned machine: each pair waits for its visit sets one after another, and only the last one's meetings count.
use Rattle.std.specs.Prelude.{ℕ, zero, suc, ◌+◌, ◌-◌, Bool, true, false, cond, ◌&&◌, List, replicate, ◌==◌, nat_lt, slice_index, slice_set}
use Rattle.machine.specs.Machines.{Course, Pairs, Machine}
use Rattle.turning.specs.declared.TurnedState.{TurnedState}

-- a pair's turn after a state is left: the next set where the state is in the set waited for, and the first after the last
abbrev pub next_turn : {S : Type 0} → Pairs S → ℕ → S → ℕ → ℕ
next_turn pairs p s turn = cond (pairs.visited p turn s) (cond (nat_lt (turn + 1) (pairs.visits p)) (turn + 1) 0) turn

-- the turns after a state is left, moved for the first n pairs; a pair past the turns has none to move
abbrev pub next_turns : {S : Type 0} → Pairs S → S → List ℕ → ℕ → List ℕ
next_turns pairs s turns zero = turns
next_turns pairs s turns (suc n) = slice_set (next_turns pairs s turns n) n (next_turn pairs n s (slice_index turns n))

-- the machine's course, with every turn 0 at first and moved by the state that is left
abbrev pub turned_course : {S : Type 0} → Course S → Pairs S → Course (TurnedState S)
turned_course course pairs = record {
  names = course.names;
  start = record { inner = course.start; turns = replicate 16 0 };
  next = λ s a. record { inner = course.next s.inner a; turns = next_turns pairs s.inner s.turns pairs.count };
}

-- the last visit set of a pair is met in its turn; where a pair has no visit set, every state will do
abbrev pub is_last_met : {S : Type 0} → Pairs S → ℕ → S → ℕ → Bool
is_last_met pairs p s turn = cond (pairs.visits p == 0) true (turn == pairs.visits p - 1 && pairs.visited p (pairs.visits p - 1) s)

-- the same avoid sets, and one visit set for each pair
abbrev pub turned_pairs : {S : Type 0} → Pairs S → Pairs (TurnedState S)
turned_pairs pairs = record {
  count = pairs.count;
  visits = λ p. cond (nat_lt p pairs.count) 1 0;
  avoids = λ p s. pairs.avoids p s.inner;
  visited = λ p j s. cond (nat_lt p pairs.count && j == 0) (is_last_met pairs p s.inner (slice_index s.turns p)) false;
}

-- the turned machine of a machine
abbrev pub turned : {S : Type 0} → Machine S → Machine (TurnedState S)
turned m = record { course = turned_course m.course m.pairs; pairs = turned_pairs m.pairs }
