use Rattle.std.proofs.Common.{◌≡◌, Bool, true, false, ◌||◌, eqb, get_or, take, refl, sym, ap, ◌∙◌}
use Rattle.std.specs.List.{list_any}
use Rattle.std.proofs.lemmas.List.Folds.{list_any_more}
use Rattle.translate.specs.States.{member, member_set}
use Rattle.translate.proofs.state.Forecasts.insert_all.Goals as goal

turned : (a b c : Bool) → (a || (b || c)) ≡ (b || (c || a))
turned true true c = refl
turned true false true = refl
turned true false false = refl
turned false true c = refl
turned false false true = refl
turned false false false = refl

pub loop-forecast-preserved : goal.loop-forecast-preserved
loop-forecast-preserved c = λ J h.
    let old = c.args.self.now in
    let forecasts = c.args.forecasts.now in
    let i = c.loop-forecast.forecast-index in
    ap (λ s. member s J) c.insert.ensures ∙ member_set (λ K. eqb (get_or forecasts i 0) K || member c.loop-forecast.self K) J h
    ∙ ap (λ b. eqb (get_or forecasts i 0) J || b) (c.loop-forecast.invariant J h)
    ∙ turned (eqb (get_or forecasts i 0) J) (member old J) (list_any (λ K. eqb K J) (take i forecasts))
    ∙ ap (λ b. member old J || b) (sym (list_any_more (λ K. eqb K J) forecasts i 0 c.loop-forecast-test.true))
