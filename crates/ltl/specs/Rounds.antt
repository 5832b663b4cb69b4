-- Rounds: a lead-in once, then a cycle for ever.
use Rattle.std.specs.Prelude.{◌≡◌, ℕ, suc, ◌+◌, ◌-◌, ◌%◌, ◌<◌, ◌≤◌, cond, ◌⊎◌, List, length, nat_lt, slice_index}
use Rattle.ltl.specs.Formula.{Formula}
use Rattle.ltl.specs.Formula.Formula.{eventually, always}
use Rattle.ltl.specs.Words.{Word, Sat}

-- the endless word that a lead-in and a cycle spell
abbrev pub spelling : List ℕ → List ℕ → Word
spelling lead cycle i = cond (nat_lt i (length lead)) (slice_index lead i) (slice_index cycle ((i - length lead) % length cycle))

-- from position start on the word comes back after period letters
abbrev pub Repeats : Word → ℕ → ℕ → Type 0
Repeats w start period = (i : ℕ) → start ≤ i → w (i + period) ≡ w i

-- on every word, what is eventual or everlasting is told by this position and the next
pub record Unrolls (φ : Formula ℕ) (w : Word) (i : ℕ) : Type 0 where
  pub eventual : (Sat (eventually φ) w i → Sat φ w i ⊎ Sat (eventually φ) w (suc i)) × (Sat φ w i ⊎ Sat (eventually φ) w (suc i) → Sat (eventually φ) w i)
  pub lasting : (Sat (always φ) w i → Sat φ w i × Sat (always φ) w (suc i)) × (Sat φ w i × Sat (always φ) w (suc i) → Sat (always φ) w i)

-- on a word that repeats, truth repeats with it, can be decided, and is the same throughout the cycle for F and G
pub record Settles (φ : Formula ℕ) (w : Word) (start period : ℕ) : Type 0 where
  pub again : (i : ℕ) → start ≤ i → (Sat φ w (i + period) → Sat φ w i) × (Sat φ w i → Sat φ w (i + period))
  pub decided : (i : ℕ) → Dec (Sat φ w i)
  pub eventual : (i j : ℕ) → start ≤ i → start ≤ j → Sat (eventually φ) w i → Sat (eventually φ) w j
  pub lasting : (i j : ℕ) → start ≤ i → start ≤ j → Sat (always φ) w i → Sat (always φ) w j

abbrev pub Unrolling : Type 0
Unrolling = (φ : Formula ℕ) (w : Word) (i : ℕ) → Unrolls φ w i

abbrev pub Settling : Type 0
Settling = (φ : Formula ℕ) (w : Word) (start period : ℕ) → 0 < period → Repeats w start period → Settles φ w start period

-- a round's word repeats from the end of its lead-in on with its cycle
abbrev pub RoundsRepeat : Type 0
RoundsRepeat = (lead cycle : List ℕ) → 0 < length cycle → Repeats (spelling lead cycle) (length lead) (length cycle)
