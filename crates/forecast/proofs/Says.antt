-- The pairs of a rule say what the rule says. Assumes nothing.
use Rattle.std.proofs.Common.{ℕ, ◌+◌, ◌<◌, ◌≤◌, ◌⊎◌, length, arith}
use mathlib.Core.Logic.◌⊎◌.{inl, inr}
use Rattle.ltl.specs.Formula.{Formula}
use Rattle.ltl.specs.Formula.Formula.{always}
use Rattle.ltl.specs.Words.{Word, Sat}
use Rattle.ltl.specs.Rounds.{spelling, Repeats}
use Rattle.ltl.proofs.Bounded.{Somewhere, Throughout, all_from}
use Rattle.ltl.proofs.Meanings.{sound_tidy}
use Rattle.ltl.proofs.Truth.{sat_decided, settling, settled_always}
use Rattle.ltl.proofs.RoundWords.{rounds_repeat}
use Rattle.machine.proofs.Looping.{sound_cycle}
use Rattle.forecast.specs.Laws.{SaysTheRule}
use Rattle.forecast.proofs.Truths.{Decided}
use Rattle.forecast.proofs.Letterwise.{sound_letters}
use Rattle.forecast.proofs.Accepted.{accepted_true}
use Rattle.forecast.proofs.Satisfied.{Settled, true_accepted}

-- a word that repeats settles where it begins to
repeats_settles : (w : Word) (L period : ℕ) → 0 < period → Repeats w L period → Settled w L
repeats_settles w L period pos r = record {
  eventual = λ φ. (settling φ w L period pos r).eventual;
  lasting = λ φ. (settling φ w L period pos r).lasting;
  fails = λ φ h. go φ h (all_from (Sat φ w) (sat_decided w L period pos r φ) L (L + period));
}
  where
    go : (φ : Formula ℕ) → ¬ Sat (always φ) w L
        → Throughout (Sat φ w) L (L + period) ⊎ Somewhere (λ k. ¬ Sat φ w k) L (L + period) → (j : ℕ) × (L ≤ j) × (¬ Sat φ w j)
    go φ h (inl s) = absurd (h ((settled_always φ w L period pos r L (omega arith)).1 s))
    go φ h (inr f) = (f.0, f.1, f.3)

-- a round's run is accepted by some pair exactly when the round satisfies the rule
pub says_the_rule : {S : Type 0} → SaysTheRule S
says_the_rule states n ns ruled lead cycle granted =
    let w = spelling lead cycle in
    let pos = sound_cycle n lead cycle granted in
    let again = rounds_repeat lead cycle pos in
    let decided : Decided w = sat_decided w (length lead) (length cycle) pos again in
    let letters = sound_letters n lead cycle granted pos in
    let tidy = sound_tidy n ns ruled.ordered in (
      λ p. accepted_true states n ns ruled w letters tidy p.0 p.1 decided,
      true_accepted states n ns ruled w letters decided tidy (length lead) (repeats_settles w (length lead) (length cycle) pos again),
    )
