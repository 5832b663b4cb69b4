-- What a counter means: its steps, and the sets of its pairs.
use Rattle.std.specs.Prelude.{ℕ, ◌+◌, ◌%◌, Bool, false, cond, Some, None, Option, length, slice_get, option_and_then, ◌==◌, nat_lt}
use Rattle.std.specs.Option.{option_map_or}
use Rattle.machine.specs.Machines.{Course, Pairs}
use Rattle.judged.specs.declared.counter.Counter.{Counter}

-- a letter with the name set advances the counter, from its last state back
abbrev pub stepped : ℕ → ℕ → ℕ → ℕ → ℕ
stepped last back s letter = cond (letter % 2 == 1) (cond (nat_lt s last) (s + 1) back) s

-- whether this is the state
abbrev pub holds : Option ℕ → ℕ → Bool
holds None s = false
holds (Some a) s = a == s

abbrev pub counting : Counter → Course ℕ
counting c = record { names = 1; start = 0; next = stepped c.last c.back }

-- the state that a pair avoids, and those that it visits; beyond a count there are none
abbrev pub pairing : Counter → Pairs ℕ
pairing c = record {
  count = length c.pairs.now;
  visits = λ p. option_map_or (λ q. length q.visits.now) (slice_get c.pairs.now p) 0;
  avoids = λ p s. holds (option_and_then (λ q. q.avoid) (slice_get c.pairs.now p)) s;
  visited = λ p j s. holds (option_and_then (λ q. slice_get q.visits.now j) (slice_get c.pairs.now p)) s;
}
