-- What a pair accepts satisfies the rule. Assumes nothing.
use Rattle.std.proofs.Common.{◌≡◌, ℕ, zero, suc, ◌-◌, ◌^◌, ◌<◌, ◌≤◌, Bool, true, false, not, ◌&&◌, ltb, List, length, get_or, sym, refl, ap, ◌∙◌, subst, arith}
use mathlib.Core.Logic.◌⊎◌.{inl, inr}
use Rattle.std.proofs.lemmas.Bool.{false≢true, both_ways, not-true, not-false, not_from_false, lt-ltb, and_parts, or_cases, or_parts, cond-true}
use Rattle.ltl.specs.declared.Node.{Node}
use Rattle.ltl.specs.declared.Node.TheVariants.{True, False, Atom, NotAtom, And, Or, Eventually, Always}
use Rattle.ltl.specs.Words.{Word, bit, Sat}
use Rattle.ltl.specs.Arena.{first_of, meaning_of, meanings, root, temporals}
use Rattle.ltl.proofs.Meanings.{Fits, Tidy, mean_at}
use Rattle.machine.specs.Runs.{run, AcceptedBy}
use Rattle.forecast.specs.Bounded.{all, nth}
use Rattle.forecast.specs.Forecasts.{rank, kept, value_of, values, holds_at}
use Rattle.forecast.specs.Steady.{breaks, each_g, steady, visiting}
use Rattle.forecast.specs.Rules.{States, course_of, pair_count, forecast_of, visit_count, visit_part, machine_of}
use Rattle.forecast.specs.Laws.{Ruled}
use Rattle.forecast.proofs.Tests.{some_from, all_each, nth_found, nth_each}
use Rattle.forecast.proofs.Values.{each_below, value_at, holds_temporal}
use Rattle.forecast.proofs.Growth.{Under}
use Rattle.forecast.proofs.Truths.{Decided, meaning, truth_decides, foreseen, foreseen_below, foreseen_decides}
use Rattle.forecast.proofs.Obliged.{runs, last_letter, has_above, foreseen_possible, has_foreseen}
use Rattle.forecast.proofs.Members.{each_f_from, each_g_from}

-- what is left of a joined test whose first part passes
rest_fails : (x y : Bool) → x ≡ true → (x && y) ≡ false → y ≡ false
rest_fails x y e h = sym (ap (λ b. b && y) e) ∙ h

module _ {S : Type 0} (states : States S) (n : ℕ) (ns : List Node) (ruled : Ruled n ns) (w : Word) (letters : (i : ℕ) → w i < 2 ^ n) (tidy : Tidy ns)
    (p : ℕ) (accepted : AcceptedBy (machine_of states n ns) w p) where
  -- the state after i letters
  abbrev at : ℕ → S
  at i = run (course_of states n ns) w i

  -- the pair's forecast
  abbrev I : ℕ
  I = forecast_of states n ns p

  -- from here on nothing is avoided
  abbrev N : ℕ
  N = accepted.avoids.0

  -- the pair is one of the machine's
  counted : ltb p (pair_count states n ns) ≡ true
  counted = lt-ltb p (pair_count states n ns) accepted.pair

  -- from N on the obligation has the pair's forecast, and no G within it breaks
  quiet : (m : ℕ) → N ≤ suc m → (states.has (at (suc m)) I ≡ true) × (breaks n ns I (w m) ≡ false)
  quiet m l =
      let s = at (suc m) in
      let h = rest_fails _ _ counted (accepted.avoids.1 (suc m) l) in
      let g = or_parts (not (states.has s I)) (breaks n ns I (states.letter s)) (rest_fails _ _ (not_from_false _ (runs states n ns ruled w letters m)) h) in
      (not-false _ g.0, subst (λ a. breaks n ns I a ≡ false) (last_letter states n ns ruled w letters m) g.1)

  -- where F q is within the forecast, q holds again and again at the letter and the forecast
  met : (k q : ℕ) → k < length ns → get_or ns k True ≡ Eventually q → bit (rank ns k) I ≡ true → (M : ℕ) → (m : ℕ) × (M ≤ m) × (holds_at ns (w m) I q ≡ true)
  met k q l e b M = go (all (2 ^ n) (λ a. holds_at ns a I q)) refl
    where
      visited : (r i : ℕ) → nth (length ns) (visiting n ns I) r ≡ k → suc M ≤ i → (machine_of states n ns).pairs.visited p r (at i) ≡ true
          → (m : ℕ) × (M ≤ m) × (holds_at ns (w m) I q ≡ true)
      visited r zero same h v = let z : ⊥ = omega arith in absurd z
      visited r (suc m) same h v =
          let part : visit_part states n ns p r ≡ q = ap (λ j. first_of (get_or ns j True)) same ∙ ap first_of e in
          let v₁ = (and_parts (ltb p (pair_count states n ns)) _ v).1 in
          let v₂ = (and_parts (ltb r (visit_count states n ns p)) _ v₁).1 in
          let v₃ = (and_parts (not (states.starting (at (suc m)))) _ v₂).1 in (
            m,
            omega arith,
            subst (λ a. holds_at ns a I q ≡ true) (last_letter states n ns ruled w letters m)
                (subst (λ j. holds_at ns (states.letter (at (suc m))) I j ≡ true) part v₃),
          )

      go : (c : Bool) → all (2 ^ n) (λ a. holds_at ns a I q) ≡ c → (m : ℕ) × (M ≤ m) × (holds_at ns (w m) I q ≡ true)
      go true h = (M, omega arith, all_each (2 ^ n) (λ a. holds_at ns a I q) h (w M) (letters M))
      go false h =
          let f = nth_each (length ns) (visiting n ns I) k l
          (each_f_from n ns I (λ j. not (all (2 ^ n) (λ a. holds_at ns a I j))) k q e b (not_from_false _ h)) in
          let c : visit_count states n ns p ≡ (machine_of states n ns).pairs.visits p = sym (cond-true _ _ _ counted) in
          let v = accepted.visits f.0 (subst (λ x. f.0 < x) c f.1) (suc M) in
          visited f.0 v.0 f.2 v.1 v.2

  -- what holds at a letter from N on and the forecast is true there
  true_at : (k : ℕ) → k < length ns → (m : ℕ) → N ≤ m → holds_at ns (w m) I k ≡ true → Sat (meaning ns k) w m
  true_at = each_below (length ns) (λ k. (m : ℕ) → N ≤ m → holds_at ns (w m) I k ≡ true → Sat (meaning ns k) w m) step
    where
      -- where G q is within the forecast, q holds at each later letter
      holds_part : (k q : ℕ) → k < length ns → get_or ns k True ≡ Always q → bit (rank ns k) I ≡ true → (j : ℕ) → N ≤ j → holds_at ns (w j) I q ≡ true
      holds_part k q l e b j h = go (holds_at ns (w j) I q) refl
        where
          go : (c : Bool) → holds_at ns (w j) I q ≡ c → c ≡ true
          go true v = refl
          go false v = absurd (both_ways _ (quiet j (omega arith)).1 (some_from (length ns) (each_g n ns I (λ x. not (holds_at ns (w j) I x))) k l
              (each_g_from n ns I (λ x. not (holds_at ns (w j) I x)) k q e b (not_from_false _ v))))

      node : (k : ℕ) → k < length ns → (x : Node) → get_or ns k True ≡ x → Fits k x
          → ((j : ℕ) → j < k → (m : ℕ) → N ≤ m → holds_at ns (w m) I j ≡ true → Sat (meaning ns j) w m)
          → (m : ℕ) → N ≤ m → value_of kept (w m) I (values kept ns (w m) I) (rank ns k) x ≡ true → Sat (meaning_of (meanings ns) x) w m
      node k l True e f before m h v = tt
      node k l False e f before m h v = absurd (false≢true v)
      node k l (Atom b) e f before m h v = v
      node k l (NotAtom b) e f before m h v = not-true _ v
      node k l (And i j) e f before m h v =
          let c = and_parts (holds_at ns (w m) I i) (holds_at ns (w m) I j) v in
          (before i f.0 m h c.0, before j f.1 m h c.1)
      node k l (Or i j) e f before m h v = elim (or_cases (holds_at ns (w m) I i) (holds_at ns (w m) I j) v) [
        | inl c ↦ inl (before i f.0 m h c)
        | inr c ↦ inr (before j f.1 m h c)
      ]
      node k l (Eventually q) e f before m h v = let g = met k q l e v m in (g.0, g.1, before q f g.0 (omega arith) g.2)
      node k l (Always q) e f before m h v = λ j b. before q f j (omega arith) (holds_part k q l e v j (omega arith))

      step : (k : ℕ) → k < length ns → ((j : ℕ) → j < k → (m : ℕ) → N ≤ m → holds_at ns (w m) I j ≡ true → Sat (meaning ns j) w m)
          → (m : ℕ) → N ≤ m → holds_at ns (w m) I k ≡ true → Sat (meaning ns k) w m
      step k l before m h v = subst (λ φ. Sat φ w m) (sym (mean_at ns k l (tidy k l)))
          (node k l (get_or ns k True) refl (tidy k l) before m h (sym (value_at kept ns tidy (w m) I k l) ∙ v))

  -- so the rule is true at the first position
  pub accepted_true : Decided w → Sat (root ns) w 0
  accepted_true decided =
      let i = suc N in
      let some : 0 < length ns = ruled.some in
      let under : Under ns I (foreseen w decided ns i) = λ k l t b.
      (foreseen_decides w decided ns tidy i k l t).1 (true_at k l i (omega arith) (holds_temporal ns tidy (w i) I k l t ∙ b)) in
      let h = has_above states n ns ruled w letters tidy N I (foreseen w decided ns i) (nth_found (2 ^ temporals ns) (steady n ns) p accepted.pair).0
      (foreseen_below w decided ns tidy i) (foreseen_possible states n ns ruled w letters decided tidy i) under (quiet N (omega arith)).0 in
      (truth_decides w decided ns tidy 0 (length ns - 1) (omega arith)).0 (sym (has_foreseen states n ns ruled w letters decided tidy N) ∙ h)
