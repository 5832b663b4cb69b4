use Rattle.std.proofs.Common.{◌≡◌, ◌+◌, ◌^◌, ◌<◌, cond, length, get_or, take, drop, sym, refl, ap, ◌∙◌, subst, arith, rules, tests, length-append, length-take, length-drop}
use Rattle.std.specs.List.{sum_by}
use Rattle.std.proofs.Math.ListN.{get_or-append}
use Rattle.std.proofs.lemmas.List.{get_or-take}
use Rattle.std.proofs.lemmas.List.FromFn.{length-enumerate_from, get_or-enumerate_from}
use Rattle.std.proofs.lemmas.List.Sums.{sum_by_push}
use Rattle.std.proofs.lemmas.Iterator.{YieldsList-from_slice, YieldsList-from_zip}
use Rattle.std.proofs.lemmas.Iterator.Consumers.{YieldsList-at, YieldsList-from_filter, YieldsList-from_enumerate, YieldsList-turn, YieldsList-so_far, YieldsList-end}
use lib.ListN.{get_or-replicate}
use Rattle.ltl.specs.Words.{bit}
use Rattle.ltl.specs.Arena.{temporal}
use Rattle.rule.specs.Rules.{nodes_in}
use Rattle.forecast.specs.Forecasts.{renewed, values}
use Rattle.forecast.proofs.Values.{length_values}
use Rattle.outlook.specs.declared.deciding.Deciding.TheVariants.{Renewed}
use Rattle.outlook.proofs.Held.{told_bit}
use Rattle.outlook.proofs.Ruled.{tidy_nodes, few_nodes, few_letters}
use Rattle.outlook.proofs.Rows.{temporal_words, bit_value, gather_words, length_words, bits_below, sum_by-map}
use Rattle.outlook.proofs.recasts.recasts_of.Goals as goal

pub loop-rank-init : goal.loop-rank-init
loop-rank-init c = record { size = refl; bits = λ a h. get_or-replicate 64 a 0 0 (omega (arith, c.letter_count-letters.ensures.few)) }

pub add_bit-requires : goal.add_bit-requires
add_bit-requires c =
    let ns = nodes_in c.args.rule.now in
    let ws = c.letters_under-words.result in
    let size : length ws ≡ 32 = search rules in
    let turn = YieldsList-turn (YieldsList-at c.into_iter-rank-iterator.ensures.into_iter_gives (YieldsList-from_enumerate {ys = temporal_words (nodes_in c.args.rule.now) c.letters_under-words.result} (YieldsList-at c.enumerate-rank-items.ensures.source
    (YieldsList-from_filter _ (λ p. temporal p.0) (YieldsList-at c.filter-temporal.ensures.source (YieldsList-from_zip (YieldsList-from_slice (nodes_in c.args.rule.now) cc) (YieldsList-from_slice c.letters_under-words.result cc)))
    c.filter-temporal.ensures.closure (λ x r q k. search (rules, tests)))) (cc))) c.loop-rank.yielded _ c.loop-rank.yielded_by _ c.next.new.self _ c.in-Some.is c.next.ensures.steps in
    let before = YieldsList-so_far (YieldsList-at c.into_iter-rank-iterator.ensures.into_iter_gives (YieldsList-from_enumerate {ys = temporal_words (nodes_in c.args.rule.now) c.letters_under-words.result} (YieldsList-at c.enumerate-rank-items.ensures.source
    (YieldsList-from_filter _ (λ p. temporal p.0) (YieldsList-at c.filter-temporal.ensures.source (YieldsList-from_zip (YieldsList-from_slice (nodes_in c.args.rule.now) cc) (YieldsList-from_slice c.letters_under-words.result cc)))
    c.filter-temporal.ensures.closure (λ x r q k. search (rules, tests)))) (cc))) c.loop-rank.yielded _ c.loop-rank.yielded_by in
    let k = length c.loop-rank.yielded in
    let inside : k < length (temporal_words ns ws) = omega (arith, turn.0, length-enumerate_from 0 (temporal_words ns ws)) in
    let rank : c.in-Some.rank ≡ k = ap (λ p. p.0) (turn.1 ∙ get_or-enumerate_from 0 (temporal_words ns ws) k _ inside) ∙ (omega arith) in
    record {
      few = omega (arith, rank, inside, length_words ns ws (omega (arith, few_nodes c.args.rule.now)), c.args.rule.now.temporal);
      below = λ a h.
          let short : a < c.letter_count-letters.result = omega (arith, length-take c.letter_count-letters.result c.loop-rank.row) in
          subst (λ r. get_or (take c.letter_count-letters.result c.loop-rank.row) a 0 < 2 ^ r) (sym rank)
          (subst (λ x. x < 2 ^ k) (sym (get_or-take c.letter_count-letters.result c.loop-rank.row a 0 short ∙ c.loop-rank.invariant.bits a short ∙ sym (sum_by-map (bit_value a) _ c.loop-rank.yielded) ∙ ap (sum_by (bit_value a)) before))
          (bits_below k (temporal_words ns ws) a (omega arith)));
    }

pub loop-rank-preserved : goal.loop-rank-preserved
loop-rank-preserved c =
    let letters = c.letter_count-letters.result in
    let row = c.loop-rank.row in
    let few : length (take letters row) ≡ letters = omega (arith, length-take letters row, c.loop-rank.invariant.size, c.letter_count-letters.ensures.few) in
    let same : length c.add_bit.new.row ≡ length (take letters row) = search rules in
    record {
      size = omega (arith, length-append c.add_bit.new.row (drop letters row), length-drop letters row, c.loop-rank.invariant.size, c.letter_count-letters.ensures.few);
      bits = λ a h.
          get_or-append c.add_bit.new.row (drop letters row) 0 a (omega arith) ∙ c.add_bit.ensures a (omega arith)
          ∙ ap (λ x. x + cond (bit a c.in-Some.word.now) (2 ^ c.in-Some.rank) 0) (get_or-take letters row a 0 h ∙ c.loop-rank.invariant.bits a h)
          ∙ sym (sum_by_push _ c.loop-rank.yielded _);
    }

pub returns : goal.returns
returns c =
    let rule = c.args.rule.now in
    let ns = nodes_in rule in
    let ws = c.letters_under-words.result in
    let size : length ws ≡ 32 = search rules in
    let J = c.args.forecast in
    let all = YieldsList-end (YieldsList-at c.into_iter-rank-iterator.ensures.into_iter_gives (YieldsList-from_enumerate {ys = temporal_words (nodes_in c.args.rule.now) c.letters_under-words.result} (YieldsList-at c.enumerate-rank-items.ensures.source
    (YieldsList-from_filter _ (λ p. temporal p.0) (YieldsList-at c.filter-temporal.ensures.source (YieldsList-from_zip (YieldsList-from_slice (nodes_in c.args.rule.now) cc) (YieldsList-from_slice c.letters_under-words.result cc)))
    c.filter-temporal.ensures.closure (λ x r q k. search (rules, tests)))) (cc))) c.loop-rank.yielded _ c.loop-rank.yielded_by _ c.next.new.self c.in-None.is c.next.ensures.steps in
    λ a h.
    c.loop-rank.invariant.bits a (omega (arith, c.letter_count-letters.ensures.value)) ∙ sym (sum_by-map (bit_value a) _ c.loop-rank.yielded) ∙ ap (sum_by (bit_value a)) all.0
    ∙ gather_words 0 ns ws (values renewed ns a J) a (length_values renewed ns (tidy_nodes rule) a J) (omega (arith, few_nodes rule))
    (λ k l. told_bit Renewed ns J k (length ns) a ws l (omega (arith, few_letters rule)) c.letters_under-words.ensures)
