-- What passing a test comes to, a word at a time.
use Rattle.std.specs.Prelude.{◌≡◌, ℕ, ◌+◌, ◌<◌, ◌≤◌, Bool, true, false}
use Rattle.ltl.specs.Words.{bit}

-- a word from `base` on: of the forecasts below a count it has those that are in a word and pass, and no others
pub record Part (Passes : ℕ → Bool → Type 0) (count among base word : ℕ) : Type 0 where
  pub answers : (k : ℕ) → k < 64 → base + k < count → bit k among ≡ true → Passes (base + k) (bit k word)
  pub others : (k : ℕ) → k < 64 → bit k among ≡ false → bit k word ≡ false
  pub past : (k : ℕ) → k < 64 → count ≤ base + k → bit k word ≡ false
