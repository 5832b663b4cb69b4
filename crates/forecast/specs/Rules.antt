-- The machine of a rule with nodes ns over n names.
use Rattle.std.specs.Prelude.{◌≡◌, ℕ, ◌-◌, ◌%◌, ◌^◌, ◌<◌, Bool, true, false, cond, not, ◌&&◌, ◌||◌, List, length, nat_lt, slice_index_or}
use Rattle.ltl.specs.declared.Node.{Node}
use Rattle.ltl.specs.declared.Node.TheVariants.{True}
use Rattle.ltl.specs.Arena.{first_of, temporals}
use Rattle.machine.specs.Machines.{Course, Pairs, Machine}
use Rattle.forecast.specs.Bounded.{count, nth}
use Rattle.forecast.specs.Forecasts.{holds_at, recast, possible}
use Rattle.forecast.specs.Steady.{breaks, steady, visiting}

-- states, however they are held: the start, or an obligation (a set of forecasts) with the last letter
pub record States (S : Type 0) : Type 0 where
  pub start : S
  pub make : (ℕ → Bool) → ℕ → S
  pub starting : S → Bool
  pub has : S → ℕ → Bool
  pub letter : S → ℕ
  -- what is made is read back, for the forecasts and letters that there are
  pub start_starts : starting start ≡ true
  pub made_runs : (f : ℕ → Bool) (a : ℕ) → starting (make f a) ≡ false
  pub made_has : (f : ℕ → Bool) (a J : ℕ) → J < 256 → has (make f a) J ≡ f J
  pub made_letter : (f : ℕ → Bool) (a : ℕ) → a < 64 → letter (make f a) ≡ a

module _ {S : Type 0} (states : States S) (n : ℕ) (ns : List Node) where
  -- from the start: the possible J for whose recast K by a the rule holds at (a, K)
  abbrev pub opening : ℕ → ℕ → Bool
  opening a J = possible n ns J && holds_at ns a (recast ns a J) (length ns - 1)

  -- from an obligation: the possible J whose recast by a is in it
  abbrev pub carried : S → ℕ → ℕ → Bool
  carried s a J = possible n ns J && states.has s (recast ns a J)

  abbrev pub stepped : S → ℕ → S
  stepped s a = cond (states.starting s) (states.make (opening a) a) (states.make (carried s a) a)

  abbrev pub course_of : Course S
  course_of = record { names = n; start = states.start; next = λ s a. stepped s (a % 2 ^ n) }

  -- one pair for each steady forecast, in order of its number
  abbrev pub pair_count : ℕ
  pair_count = count (2 ^ temporals ns) (steady n ns)

  abbrev pub forecast_of : ℕ → ℕ
  forecast_of p = nth (2 ^ temporals ns) (steady n ns) p

  -- the states that a pair avoids: whose obligation lacks I, or at whose letter some G q within I has q fail
  abbrev pub avoiding : ℕ → S → Bool
  avoiding p s = not (states.starting s) && (not (states.has s (forecast_of p)) || breaks n ns (forecast_of p) (states.letter s))

  abbrev pub visit_count : ℕ → ℕ
  visit_count p = count (length ns) (visiting n ns (forecast_of p))

  -- the part of the F that gives visit set j
  abbrev pub visit_part : ℕ → ℕ → ℕ
  visit_part p j = first_of (slice_index_or ns (nth (length ns) (visiting n ns (forecast_of p)) j) True)

  abbrev pub visiting_state : ℕ → ℕ → S → Bool
  visiting_state p j s = not (states.starting s) && holds_at ns (states.letter s) (forecast_of p) (visit_part p j)

  -- beyond a count there is nothing
  abbrev pub pairs_of : Pairs S
  pairs_of = record {
    count = pair_count;
    visits = λ p. cond (nat_lt p pair_count) (visit_count p) 0;
    avoids = λ p s. nat_lt p pair_count && avoiding p s;
    visited = λ p j s. nat_lt p pair_count && (nat_lt j (visit_count p) && visiting_state p j s);
  }

  abbrev pub machine_of : Machine S
  machine_of = record { course = course_of; pairs = pairs_of }
