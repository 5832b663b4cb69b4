use Rattle.std.proofs.Common.{◌≡◌, ◌+◌, ◌∷◌, [], ◌++◌, length, sym, subst, ◌∙◌, arith, rules, length-append}
use Rattle.few.specs.Items.{items}
use Rattle.rule.specs.Rules.{names_in, nodes_in}
use Rattle.translate.specs.declared.row.Row.{Row}
use Rattle.translate.specs.Tables.{Tabled, RowOf}
use Rattle.translate.proofs.Counting.{count_turn, count_end}
use Rattle.translate.proofs.Looked.{tabled_more}
use Rattle.translate.proofs.making.all_rows.Goals as goal

pub unwrap-requires : goal.unwrap-requires
unwrap-requires c =
    let turn = count_turn c.new.ensures.start c.new.ensures.end c.new.ensures.exhausted (cc) c.forecast_count.result (cc) c.forecast_count.ensures.few c.loop-forecast.yielded _ c.loop-forecast.yielded_by c.next.new.self c.in-Some.is c.next.ensures.steps in
    c.push.ensures.room.1 (omega (arith, turn.0, c.loop-forecast.invariant.many, c.forecast_count.ensures.few))

pub loop-forecast-preserved : goal.loop-forecast-preserved
loop-forecast-preserved c =
    let n = length (names_in c.args.rule.now) in
    let ns = nodes_in c.args.rule.now in
    let m = length c.loop-forecast.yielded in
    let rows = items c.loop-forecast.rows in
    let turn = count_turn c.new.ensures.start c.new.ensures.end c.new.ensures.exhausted (cc) c.forecast_count.result (cc) c.forecast_count.ensures.few c.loop-forecast.yielded _ c.loop-forecast.yielded_by c.next.new.self c.in-Some.is c.next.ensures.steps in
    let row : Row = record { recasts = c.recasts_of.result; root = c.rule_letters.result } in
    let more : items c.push.new.self ≡ rows ++ row ∷ [] = search rules in
    let size : length c.recasts_of.result ≡ 64 = search rules in
    let of : RowOf n ns c.in-Some.forecast row = record { size = size; recasts = c.recasts_of.ensures; root = c.rule_letters.ensures } in
    subst (λ k. Tabled n ns k (items c.push.new.self)) (sym (length-append c.loop-forecast.yielded (c.in-Some.forecast ∷ [])))
    (subst (Tabled n ns (m + 1)) (sym more) (tabled_more n ns m rows row c.loop-forecast.invariant (subst (λ j. RowOf n ns j row) turn.1 of)))

pub returns : goal.returns
returns c =
    let ns = nodes_in c.args.rule.now in
    let all = count_end c.new.ensures.start c.new.ensures.end c.new.ensures.exhausted (cc) c.forecast_count.result (cc) c.forecast_count.ensures.few c.loop-forecast.yielded _ c.loop-forecast.yielded_by c.next.new.self c.in-None.is c.next.ensures.steps in
    subst (λ m. Tabled (length (names_in c.args.rule.now)) ns m (items c.loop-forecast.rows)) (all ∙ c.forecast_count.ensures.value) c.loop-forecast.invariant
