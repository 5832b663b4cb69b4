-- What a step of a rule's machine comes to. Assumes nothing.
use Rattle.std.proofs.Common.{◌≡◌, ℕ, ◌-◌, ◌^◌, ◌<◌, ◌≤◌, false, ◌&&◌, eqb, ltb, List, length, ap, ◌∙◌, pow_mono, arith}
use Rattle.std.proofs.lemmas.Bool.{eqb-true, lt-ltb}
use Rattle.ltl.specs.declared.Node.{Node}
use Rattle.ltl.specs.Arena.{temporals}
use Rattle.forecast.specs.Forecasts.{holds_at, recast, possible}
use Rattle.forecast.specs.Rules.{stepped}
use Rattle.forecast.proofs.Tests.{some_found, some_none}
use Rattle.forecast.proofs.Obliged.{recast_below}
use Rattle.translate.specs.declared.state.Forecasts.{Forecasts}
use Rattle.translate.specs.declared.state.State.TheVariants.{Start, Obliged}
use Rattle.translate.specs.States.{set_of, member, member_set, rule_states}
use Rattle.translate.proofs.Members.{set_of_same}

-- what is no forecast is not possible
pub possible_none : (n : ℕ) (ns : List Node) (J : ℕ) → 2 ^ temporals ns ≤ J → possible n ns J ≡ false
possible_none n ns J h = some_none (2 ^ temporals ns) _ (λ I l e.
    let f = some_found (2 ^ n) (λ a. eqb (recast ns a I) J) e in
    let same : recast ns f.0 I ≡ J = eqb-true _ _ f.2 in
    let z : ⊥ = omega (arith, recast_below ns f.0 I) in z)

-- the first obligation, from the forecasts under which the rule holds
pub first_step : (n : ℕ) (ns : List Node) (a : ℕ) (set : Forecasts) → temporals ns ≤ 8 → set ≡ set_of (λ K. ltb K (2 ^ temporals ns) && holds_at ns a K (length ns - 1))
    → Obliged (set_of (λ J. possible n ns J && member set (recast ns a J))) a ≡ stepped rule_states n ns Start a
first_step n ns a set few whole = ap (λ s. Obliged s a) (set_of_same _ _ (λ J l. ap (λ b. possible n ns J && b) (opens (recast ns a J) (recast_below ns a J))))
  where
    opens : (K : ℕ) → K < 2 ^ temporals ns → member set K ≡ holds_at ns a K (length ns - 1)
    opens K l =
        let fits : 2 ^ temporals ns ≤ 2 ^ 8 = pow_mono few in
        ap (λ s. member s K) whole ∙ member_set (λ J. ltb J (2 ^ temporals ns) && holds_at ns a J (length ns - 1)) K (omega arith)
        ∙ ap (λ b. b && holds_at ns a K (length ns - 1)) (lt-ltb K (2 ^ temporals ns) l)
