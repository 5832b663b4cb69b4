use Rattle.std.proofs.Common.{◌≡◌, ◌+◌, ◌∷◌, [], ◌++◌, false, length, sym, subst, ◌∙◌, arith, rules, length-append}
use Rattle.few.specs.Items.{items}
use Rattle.rule.specs.Rules.{names_in, nodes_in}
use Rattle.outlook.specs.Pairs.{PairOf}
use Rattle.forecast.specs.Steady.{steady}
use Rattle.forecast.proofs.Tests.{count_le}
use Rattle.translate.specs.Tables.{Listed}
use Rattle.translate.proofs.Counting.{count_turn, count_end}
use Rattle.translate.proofs.Looked.{listed_none, listed_more, listed_same}
use Rattle.translate.proofs.listing.all_pairs.Goals as goal

pub loop-forecast-init : goal.loop-forecast-init
loop-forecast-init c = subst (Listed _ _ 0) (sym c.new-pairs.ensures) (listed_none _ _)

pub unwrap-requires : goal.unwrap-requires
unwrap-requires c =
    let i = length c.loop-forecast.yielded in
    let turn = count_turn c.new-2.ensures.start c.new-2.ensures.end c.new-2.ensures.exhausted (cc) c.forecast_count.result (cc) c.forecast_count.ensures.few c.loop-forecast.yielded _ c.loop-forecast.yielded_by c.next.new.self c.in-Some.is c.next.ensures.steps in
    let few = count_le i (steady (length (names_in c.args.rule.now)) (nodes_in c.args.rule.now)) in
    c.push.ensures.room.1 (omega (arith, few, c.loop-forecast.invariant.many, turn.0, c.forecast_count.ensures.few))

pub loop-forecast-preserved-in-Some-pair_of : goal.loop-forecast-preserved-in-Some-pair_of
loop-forecast-preserved-in-Some-pair_of c =
    let n = length (names_in c.args.rule.now) in
    let ns = nodes_in c.args.rule.now in
    let i = length c.loop-forecast.yielded in
    let pairs = items c.loop-forecast.pairs in
    let turn = count_turn c.new-2.ensures.start c.new-2.ensures.end c.new-2.ensures.exhausted (cc) c.forecast_count.result (cc) c.forecast_count.ensures.few c.loop-forecast.yielded _ c.loop-forecast.yielded_by c.next.new.self c.in-Some.is c.next.ensures.steps in
    let more : items c.push.new.self ≡ pairs ++ c.in-Some-pair_of.pair ∷ [] = search rules in
    subst (λ k. Listed n ns k (items c.push.new.self)) (sym (length-append c.loop-forecast.yielded (c.in-Some.forecast ∷ [])))
    (subst (Listed n ns (i + 1)) (sym more) (listed_more n ns i pairs c.loop-forecast.invariant c.in-Some-pair_of.pair (subst (λ j. PairOf n ns j c.in-Some-pair_of.pair) turn.1 c.in-Some-pair_of.ensures)))

pub loop-forecast-preserved : goal.loop-forecast-preserved
loop-forecast-preserved c =
    let n = length (names_in c.args.rule.now) in
    let ns = nodes_in c.args.rule.now in
    let i = length c.loop-forecast.yielded in
    let pairs = items c.loop-forecast.pairs in
    let turn = count_turn c.new-2.ensures.start c.new-2.ensures.end c.new-2.ensures.exhausted (cc) c.forecast_count.result (cc) c.forecast_count.ensures.few c.loop-forecast.yielded _ c.loop-forecast.yielded_by c.next.new.self c.in-Some.is c.next.ensures.steps in
    subst (λ k. Listed n ns k pairs) (sym (length-append c.loop-forecast.yielded (c.in-Some.forecast ∷ [])))
    (listed_same n ns i pairs c.loop-forecast.invariant (subst (λ j. steady n ns j ≡ false) turn.1 c.in_default.ensures))

pub returns : goal.returns
returns c =
    let ns = nodes_in c.args.rule.now in
    let all = count_end c.new-2.ensures.start c.new-2.ensures.end c.new-2.ensures.exhausted (cc) c.forecast_count.result (cc) c.forecast_count.ensures.few c.loop-forecast.yielded _ c.loop-forecast.yielded_by c.next.new.self c.in-None.is c.next.ensures.steps in
    subst (λ m. Listed (length (names_in c.args.rule.now)) ns m (items c.loop-forecast.pairs)) (all ∙ c.forecast_count.ensures.value) c.loop-forecast.invariant
