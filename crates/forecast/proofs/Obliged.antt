-- What the states of a run of the rule's machine hold. Assumes nothing.
use Rattle.std.proofs.Common.{◌≡◌, ℕ, zero, suc, ◌-◌, ◌%◌, ◌^◌, ◌<◌, ◌≤◌, true, false, ◌&&◌, List, length, get_or, sym, ap, ◌∙◌, subst, mod-eq_of_lt, arith, pow_mono}
use Rattle.std.proofs.lemmas.Bool.{and_parts, and_from, cond-true, cond-false}
use Rattle.ltl.specs.declared.Node.{Node}
use Rattle.ltl.specs.Words.{Word}
use Rattle.ltl.specs.Arena.{temporals}
use Rattle.ltl.proofs.Meanings.{Tidy}
use Rattle.machine.specs.Runs.{run}
use Rattle.forecast.specs.Forecasts.{holds_at, recast, possible}
use Rattle.forecast.specs.Rules.{States, opening, carried, stepped, course_of}
use Rattle.forecast.specs.Laws.{Ruled}
use Rattle.forecast.proofs.Bits.{gather_below}
use Rattle.forecast.proofs.Growth.{Under, holds_grows, recast_grows}
use Rattle.forecast.proofs.Truths.{Decided, truths, foreseen, foreseen_below, recast_foreseen, recast_possible, kept_truths}

-- a recast has no bits beyond those of the temporal nodes
pub recast_below : (ns : List Node) (a J : ℕ) → recast ns a J < 2 ^ temporals ns
recast_below ns a J = gather_below ns _

module _ {S : Type 0} (states : States S) (n : ℕ) (ns : List Node) (ruled : Ruled n ns) (w : Word) (letters : (i : ℕ) → w i < 2 ^ n) where
  -- the state after i letters
  abbrev at : ℕ → S
  at i = run (course_of states n ns) w i

  -- a letter is its low bits
  low : (i : ℕ) → w i % 2 ^ n ≡ w i
  low i = mod-eq_of_lt (letters i)

  -- the letters of the word are few enough to be read back from states
  letter_fits : (i : ℕ) → w i < 64
  letter_fits i = let p : 2 ^ n ≤ 2 ^ 6 = pow_mono ruled.few_names in omega (arith, letters i)

  -- and so are forecasts
  forecast_fits : (J : ℕ) → J < 2 ^ temporals ns → J < 256
  forecast_fits J l = let p : 2 ^ temporals ns ≤ 2 ^ 8 = pow_mono ruled.few_temporal in omega arith

  -- the run starts in the start
  pub starts : states.starting (at 0) ≡ true
  starts = states.start_starts

  -- each letter is a step
  next_state : (i : ℕ) → at (suc i) ≡ stepped states n ns (at i) (w i)
  next_state i = ap (stepped states n ns (at i)) (low i)

  -- the first step makes the opening
  first_state : at 1 ≡ states.make (opening states n ns (w 0)) (w 0)
  first_state = next_state 0 ∙ cond-true _ _ _ starts

  -- behind the first letter no state is the start
  pub runs : (i : ℕ) → states.starting (at (suc i)) ≡ false
  runs zero = ap states.starting first_state ∙ states.made_runs _ _
  runs (suc i) = ap states.starting (next_state (suc i) ∙ cond-false _ _ _ (runs i)) ∙ states.made_runs _ _

  -- each later step carries the obligation on
  later_state : (i : ℕ) → at (suc (suc i)) ≡ states.make (carried states n ns (at (suc i)) (w (suc i))) (w (suc i))
  later_state i = next_state (suc i) ∙ cond-false _ _ _ (runs i)

  -- a state has the last letter
  pub last_letter : (i : ℕ) → states.letter (at (suc i)) ≡ w i
  last_letter zero = ap states.letter first_state ∙ states.made_letter _ _ (letter_fits 0)
  last_letter (suc i) = ap states.letter (later_state i) ∙ states.made_letter _ _ (letter_fits (suc i))

  -- what the first obligation holds
  first_has : (J : ℕ) → J < 2 ^ temporals ns → states.has (at 1) J ≡ opening states n ns (w 0) J
  first_has J l = ap (λ s. states.has s J) first_state ∙ states.made_has _ _ J (forecast_fits J l)

  -- what a later obligation holds
  later_has : (i J : ℕ) → J < 2 ^ temporals ns → states.has (at (suc (suc i))) J ≡ carried states n ns (at (suc i)) (w (suc i)) J
  later_has i J l = ap (λ s. states.has s J) (later_state i) ∙ states.made_has _ _ J (forecast_fits J l)

  -- an obligation that holds a forecast holds every possible one above it
  pub has_above : Tidy ns → (i J K : ℕ) → J < 2 ^ temporals ns → K < 2 ^ temporals ns → possible n ns K ≡ true → Under ns J K
      → states.has (at (suc i)) J ≡ true → states.has (at (suc i)) K ≡ true
  has_above tidy zero J K b d possible-K under h =
      let parts = and_parts (possible n ns J) (holds_at ns (w 0) (recast ns (w 0) J) (length ns - 1)) (sym (first_has J b) ∙ h) in
      let some : 0 < length ns = ruled.some in
      first_has K d ∙ and_from _ _ possible-K
      (holds_grows ns tidy (w 0) (recast ns (w 0) J) (recast ns (w 0) K) (recast_grows ns tidy (w 0) J K under) (length ns - 1) (omega arith) parts.1)
  has_above tidy (suc i) J K b d possible-K under h =
      let a = w (suc i) in
      let parts = and_parts (possible n ns J) (states.has (at (suc i)) (recast ns a J)) (sym (later_has i J b) ∙ h) in
      later_has i K d ∙ and_from _ _ possible-K
      (has_above tidy i (recast ns a J) (recast ns a K) (recast_below ns a J) (recast_below ns a K) (recast_possible n ns a K (letters (suc i)) d)
      (recast_grows ns tidy a J K under) parts.1)

  module _ (decided : Decided w) (tidy : Tidy ns) where
    -- what is foreseen is possible
    pub foreseen_possible : (i : ℕ) → possible n ns (foreseen w decided ns i) ≡ true
    foreseen_possible i = subst (λ J. possible n ns J ≡ true) (recast_foreseen w decided ns tidy i)
        (recast_possible n ns (w i) (foreseen w decided ns (suc i)) (letters i) (foreseen_below w decided ns tidy (suc i)))

    -- an obligation holds what is foreseen exactly when the rule is true at the first position
    pub has_foreseen : (i : ℕ) → states.has (at (suc i)) (foreseen w decided ns (suc i)) ≡ get_or (truths w decided ns 0) (length ns - 1) false
    has_foreseen zero =
        let r = length ns - 1 in
        first_has (foreseen w decided ns 1) (foreseen_below w decided ns tidy 1)
        ∙ ap (λ b. b && holds_at ns (w 0) (recast ns (w 0) (foreseen w decided ns 1)) r) (foreseen_possible 1)
        ∙ ap (λ J. holds_at ns (w 0) J r) (recast_foreseen w decided ns tidy 0)
        ∙ ap (λ vs. get_or vs r false) (kept_truths w decided ns tidy 0)
    has_foreseen (suc i) =
        later_has i (foreseen w decided ns (suc (suc i))) (foreseen_below w decided ns tidy (suc (suc i)))
        ∙ ap (λ b. b && states.has (at (suc i)) (recast ns (w (suc i)) (foreseen w decided ns (suc (suc i))))) (foreseen_possible (suc (suc i)))
        ∙ ap (λ J. states.has (at (suc i)) J) (recast_foreseen w decided ns tidy (suc i))
        ∙ has_foreseen i
