-- The rule's machine keeps the limits of every acceptor. Assumes nothing.
use Rattle.std.proofs.Common.{◌≡◌, ℕ, ◌^◌, ◌≤◌, Bool, true, false, cond, not, ◌&&◌, ltb, List, length, get_or, sym, refl, ap, mod-lt, mod-eq_of_lt, arith, pow_mono}
use Rattle.std.proofs.lemmas.Bool.{le-ltb, and_left, cond_both, cond-false}
use Rattle.std.proofs.lemmas.Nat.{pow_pos}
use Rattle.std.proofs.lemmas.List.Sums.{sum_by-take-le}
use Rattle.ltl.specs.declared.Node.{Node}
use Rattle.ltl.specs.declared.Node.TheVariants.{True}
use Rattle.ltl.specs.Arena.{temporal, temporals}
use Rattle.forecast.specs.Forecasts.{rank, holds_at}
use Rattle.forecast.specs.Steady.{steady, visiting}
use Rattle.forecast.specs.Rules.{States, pair_count, forecast_of, visit_count, visiting_state, stepped, machine_of}
use Rattle.forecast.specs.Bounded.{all}
use Rattle.forecast.specs.Laws.{Ruled, KeepsLimits}
use Rattle.forecast.proofs.Tests.{count_le, count_more}
use Rattle.forecast.proofs.Bits.{count_temporals}
use Rattle.forecast.proofs.Members.{each_f_is}

module _ {S : Type 0} (states : States S) (n : ℕ) (ns : List Node) (ruled : Ruled n ns) where
  -- each visit set has a temporal node of its own
  few_visits : (p : ℕ) → visit_count states n ns p ≤ 8
  few_visits p =
      let I = forecast_of states n ns p in
      let more = count_more (length ns) (visiting n ns I) (λ j. temporal (get_or ns j True))
      (λ k l e. ap temporal (each_f_is n ns I (λ q. not (all (2 ^ n) (λ a. holds_at ns a I q))) k e).1) in
      let few : temporals ns ≤ 8 = ruled.few_temporal in
      let front : rank ns (length ns) ≤ temporals ns = sum_by-take-le (λ y. cond (temporal y) 1 0) ns (length ns) in
      omega (arith, more, count_temporals ns (length ns) (omega arith))

  -- there are no more pairs than forecasts
  few_pairs : pair_count states n ns ≤ 256
  few_pairs = let p : 2 ^ temporals ns ≤ 2 ^ 8 = pow_mono ruled.few_temporal in omega (arith, count_le (2 ^ temporals ns) (steady n ns))

  -- beyond a pair's visit sets nothing is visited
  no_set : (p j : ℕ) (s : S) → (machine_of states n ns).pairs.visits p ≤ j → (machine_of states n ns).pairs.visited p j s ≡ false
  no_set p j s = go (ltb p (pair_count states n ns))
    where
      go : (b : Bool) → cond b (visit_count states n ns p) 0 ≤ j → (b && (ltb j (visit_count states n ns p) && visiting_state states n ns p j s)) ≡ false
      go true h = and_left _ _ (le-ltb j (visit_count states n ns p) h)
      go false h = refl

-- the machine keeps each limit
pub keeps_limits : {S : Type 0} → KeepsLimits S
keeps_limits states n ns ruled = record {
  few_names = ruled.few_names;
  low_bits = λ s a. ap (stepped states n ns s) (sym (mod-eq_of_lt (mod-lt a (pow_pos n))));
  few_pairs = few_pairs states n ns ruled;
  few_visits = λ p. cond_both (ltb p (pair_count states n ns)) (visit_count states n ns p) 0 (λ x. x ≤ 15)
      (λ e. omega (arith, few_visits states n ns ruled p)) (λ e. omega arith);
  no_pair = λ p s h. and_left _ _ (le-ltb p (pair_count states n ns) h);
  no_visits = λ p h. cond-false _ _ _ (le-ltb p (pair_count states n ns) h);
  no_set = no_set states n ns ruled;
}
