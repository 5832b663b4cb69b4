use Rattle.std.proofs.Common.{cond, not, length, get_or, sym, ◌∙◌, ap₂, rules}
use lib.Bits.{bit_or}
use Rattle.std.proofs.lemmas.Slice.Zip.{zip_turn}
use Rattle.rule.specs.Rules.{nodes_in}
use Rattle.bits.proofs.Collected.{gathered_same, gathered_zero}
use Rattle.forecast.proofs.Tests.{some_nothing}
use Rattle.outlook.specs.Pairs.{AtOdds, others, letters_on_f, letters_on_g}
use Rattle.outlook.proofs.Ruled.{tidy_nodes, one_more, at_node}
use Rattle.outlook.proofs.Temporals.{breaking_more, barred_more}
use Rattle.outlook.proofs.outlook.Outlook.odds.Goals as goal

pub loop-node-init : goal.loop-node-init
loop-node-init c = record {
  breaking = gathered_zero 0 64 ∙ gathered_same _ _ 0 64 (λ a h. sym (some_nothing _));
  barred = gathered_zero 0 64 ∙ gathered_same _ _ 0 64 (λ a h. sym (some_nothing _));
}

pub loop-node-preserved : goal.loop-node-preserved
loop-node-preserved c =
    let o = c.args.self.now in
    let ns = nodes_in o.rule.now in
    let tidy = tidy_nodes o.rule.now in
    let I = o.forecast in
    let ws = o.words in
    let k = length c.loop-node.yielded in
    let at = at_node ns c.nodes.result.now o.words k c.in-Some.node.now c.in-Some.word.now c.nodes.ensures.value
    (zip_turn c.nodes.result.now o.words c.loop-node.yielded _ _ c.next.new.self _ (search rules) (search rules) c.loop-node.yielded_by _ c.in-Some.is c.next.ensures.steps) in
    let within = c.has_bit-inside.ensures ∙ at.within in
    one_more (λ m. AtOdds ns I m (record { breaking = bit_or c.loop-node.odds.breaking c.failing.result; barred = bit_or c.loop-node.odds.barred c.holding.result })) c.loop-node.yielded (c.in-Some.node, c.in-Some.word) (record {
      breaking = breaking_more ns tidy I ws o.told k at.inside c.loop-node.odds.breaking c.failing.result
          (c.failing.ensures ∙ ap₂ (λ b x. cond b (letters_on_g (λ q. others (get_or ws q 0)) x) 0) within at.node)
          c.loop-node.invariant.breaking;
      barred = barred_more ns tidy I ws o.told k at.inside c.loop-node.odds.barred c.holding.result
          (c.holding.ensures ∙ ap₂ (λ b x. cond (not b) (letters_on_f (λ q. get_or ws q 0) x) 0) within at.node)
          c.loop-node.invariant.barred;
    })
