-- States as the code holds them: an obligation in four words of 64 bits.
use Rattle.std.specs.Prelude.{◌≡◌, ℕ, zero, suc, ◌+◌, ◌*◌, ◌/◌, ◌%◌, ◌<◌, Bool, true, false, [], ◌∷◌, slice_index, refl}
use Rattle.std.proofs.Common.{ap, ◌∙◌, mod-eq_of_lt, arith}
use Rattle.ltl.specs.Words.{bit}
use Rattle.bits.specs.Gathered.{gathered}
use Rattle.bits.proofs.Collected.{gathered_bit}
use Rattle.forecast.specs.Rules.{States}
use Rattle.translate.specs.declared.state.Forecasts.{Forecasts}
use Rattle.translate.specs.declared.state.State.{State}
use Rattle.translate.specs.declared.state.State.TheVariants.{Start, Obliged}

-- the set of the forecasts that pass a test
abbrev pub set_of : (ℕ → Bool) → Forecasts
set_of f = record { words = gathered f 0 64 ∷ gathered f 64 64 ∷ gathered f 128 64 ∷ gathered f 192 64 ∷ [] }

-- whether a forecast is in a set
abbrev pub member : Forecasts → ℕ → Bool
member set J = bit (J % 64) (slice_index set.words (J / 64))

abbrev pub starting : State → Bool
starting Start = true
starting (Obliged set letter) = false

abbrev pub obliges : State → ℕ → Bool
obliges Start J = false
obliges (Obliged set letter) J = member set J

-- a letter has six bits
abbrev pub state_letter : State → ℕ
state_letter Start = 0
state_letter (Obliged set letter) = letter % 64

-- a set has just the forecasts that pass
pub member_set : (f : ℕ → Bool) (J : ℕ) → J < 256 → member (set_of f) J ≡ f J
member_set f J l = go (J / 64) (J % 64) (omega arith) (omega arith) ∙ ap f (omega arith)
  where
    go : (q r : ℕ) → q < 4 → r < 64 → bit r (slice_index (set_of f).words q) ≡ f (64 * q + r)
    go zero r h l = gathered_bit f 0 64 r l
    go (suc zero) r h l = gathered_bit f 64 64 r l
    go (suc (suc zero)) r h l = gathered_bit f 128 64 r l
    go (suc (suc (suc zero))) r h l = gathered_bit f 192 64 r l
    go (suc (suc (suc (suc q)))) r h l = let z : ⊥ = omega arith in absurd z

abbrev pub rule_states : States State
rule_states = record {
  start = Start;
  make = λ f a. Obliged (set_of f) a;
  starting = starting;
  has = obliges;
  letter = state_letter;
  start_starts = refl;
  made_runs = λ f a. refl;
  made_has = λ f a J l. member_set f J l;
  made_letter = λ f a l. mod-eq_of_lt l;
}
