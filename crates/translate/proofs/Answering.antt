-- The pairs that are looked up are those of the rule. Assumes nothing.
use Rattle.std.proofs.Common.{◌≡◌, ℕ, ◌%◌, ◌<◌, ◌≤◌, true, false, not, ◌&&◌, ◌||◌, Some, ltb, List, length, get_or, slice_get, refl, sym, ap, ◌∙◌, ap₂, inl, inr, arith}
use Rattle.std.proofs.lemmas.Bool.{cases_lt, lt-ltb, le-ltb, cond-true}
use Rattle.std.proofs.lemmas.List.{get_or_past}
use Rattle.std.proofs.lemmas.Nat.{pow_pos}
use Rattle.std.proofs.lemmas.Option.{slice_get_within, slice_get_read}
use Rattle.ltl.specs.declared.Node.{Node}
use Rattle.ltl.specs.Words.{bit}
use Rattle.bits.proofs.Bits.{bit_none}
use Rattle.bits.proofs.Collected.{gathered_at}
use Rattle.few.specs.Items.{items}
use Rattle.rule.specs.declared.held.Rule.{Rule}
use Rattle.rule.specs.Rules.{nodes_in, names_in}
use Rattle.forecast.specs.Forecasts.{holds_at}
use Rattle.forecast.specs.Steady.{breaks}
use Rattle.forecast.specs.Rules.{forecast_of, visit_count, visit_part, pair_count}
use Rattle.forecast.specs.Laws.{Ruled}
use Rattle.outlook.specs.declared.pair.Pair.{Pair}
use Rattle.outlook.specs.Pairs.{PairOf}
use Rattle.outlook.proofs.Ruled.{few_names}
use Rattle.translate.specs.declared.state.Forecasts.{Forecasts}
use Rattle.translate.specs.declared.state.State.TheVariants.{Obliged}
use Rattle.translate.specs.declared.held.RuleAcceptor.{RuleAcceptor}
use Rattle.translate.specs.States.{member, rule_states}
use Rattle.translate.specs.Meaning.{rule_judges}

-- a rule's nodes are those of a rule over its names
pub ruled : (rule : Rule) → Ruled (length (names_in rule)) (nodes_in rule)
ruled rule = record { few_names = few_names rule; some = rule.some; few_temporal = rule.temporal; ordered = rule.sound }

-- a pair that was looked up in the list as it is lent
pub found_at : (xs ys : List Pair) (p : ℕ) (pair : Pair) → xs ≡ ys → p < length xs → pair ≡ get_or xs p pair → slice_get ys p ≡ Some pair
found_at xs ys p pair same inside is = ap (λ zs. slice_get zs p) (sym same) ∙ slice_get_read xs (length xs) p pair refl inside is

module _ (x : RuleAcceptor) (p : ℕ) (pair : Pair) (found : slice_get (items x.pairs) p ≡ Some pair) where
  abbrev n : ℕ
  n = length (names_in x.rule)

  abbrev ns : List Node
  ns = nodes_in x.rule

  -- the pair is one of the rule's
  counted : ltb p (pair_count rule_states n ns) ≡ true
  counted = lt-ltb p (pair_count rule_states n ns) (omega (arith, slice_get_within (items x.pairs) p pair found, x.listed.many))

  is : PairOf n ns (forecast_of rule_states n ns p) pair
  is = x.listed.each p pair found

  pub visits_right : length (items pair.visits) ≡ (rule_judges x).visits p
  visits_right = is.visits.count ∙ sym (cond-true _ _ _ counted)

  pub avoids_right : (set : Forecasts) (letter : ℕ)
      → (not (member set pair.forecast) || bit (letter % 64) pair.breaking) ≡ (rule_judges x).avoids p (Obliged set letter)
  avoids_right set letter =
      ap₂ (λ b c. not b || c) (ap (member set) is.forecast)
      (ap (bit (letter % 64)) is.breaking ∙ gathered_at (breaks n ns (forecast_of rule_states n ns p)) 64 (letter % 64) (omega arith))
      ∙ sym (ap (λ b. b && (not (member set (forecast_of rule_states n ns p)) || breaks n ns (forecast_of rule_states n ns p) (letter % 64))) counted)

  pub visited_right : (j : ℕ) (set : Forecasts) (letter : ℕ)
      → bit (letter % 64) (get_or (items pair.visits) j 0) ≡ (rule_judges x).visited p j (Obliged set letter)
  visited_right j set letter = elim (cases_lt j (length (items pair.visits))) [
    | inl h ↦
        let few : j < visit_count rule_states n ns p = omega (arith, is.visits.count) in
        ap (bit (letter % 64)) (is.visits.letters j h)
        ∙ gathered_at (λ a. holds_at ns a (forecast_of rule_states n ns p) (visit_part rule_states n ns p j)) 64 (letter % 64) (omega arith)
        ∙ sym (ap₂ (λ b c. b && (c && holds_at ns (letter % 64) (forecast_of rule_states n ns p) (visit_part rule_states n ns p j))) counted (lt-ltb j (visit_count rule_states n ns p) few))
    | inr h ↦
        ap (bit (letter % 64)) (get_or_past (items pair.visits) j 0 h) ∙ bit_none (letter % 64) 0 (pow_pos (letter % 64))
        ∙ sym (ap₂ (λ b c. b && (c && holds_at ns (letter % 64) (forecast_of rule_states n ns p) (visit_part rule_states n ns p j))) counted (le-ltb j (visit_count rule_states n ns p) (omega (arith, is.visits.count))))
  ]

  -- no letters stand beyond the visit sets
  pub visited_none : (j letter : ℕ) → (rule_judges x).visits p ≤ j → bit (letter % 64) (get_or (items pair.visits) j 0) ≡ false
  visited_none j letter h = ap (bit (letter % 64)) (get_or_past (items pair.visits) j 0 (omega (arith, visits_right))) ∙ bit_none (letter % 64) 0 (pow_pos (letter % 64))
