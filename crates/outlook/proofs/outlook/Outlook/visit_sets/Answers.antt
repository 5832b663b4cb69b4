use Rattle.std.proofs.Common.{◌≡◌, ◌+◌, true, false, ◌∷◌, [], ◌++◌, length, get_or, sym, ap, ◌∙◌, subst, arith, rules}
use Rattle.std.proofs.lemmas.Slice.Zip.{zip_turn}
use Rattle.ltl.specs.declared.Node.TheVariants.{True}
use Rattle.ltl.specs.Arena.{first_of}
use Rattle.few.specs.Items.{items}
use Rattle.rule.specs.Rules.{nodes_in, names_in}
use Rattle.outlook.specs.Pairs.{Visits}
use Rattle.outlook.proofs.Ruled.{tidy_nodes, visited_node, one_more, at_node}
use Rattle.outlook.proofs.Visiting.{visiting_part, few_visited, visits_more, visits_same, visits_none}
use Rattle.outlook.proofs.outlook.Outlook.visit_sets.Goals as goal

pub loop-node-init : goal.loop-node-init
loop-node-init c = subst (Visits _ _ _ 0) (sym c.new-visits.ensures) (visits_none _ _ _)

pub unwrap-requires : goal.unwrap-requires
unwrap-requires c =
    let o = c.args.self.now in
    let ns = nodes_in o.rule.now in
    let k = length c.loop-node.yielded in
    let at = at_node ns c.nodes.result.now o.words k c.in-Some.node.now c.in-Some.word.now c.nodes.ensures.value
    (zip_turn c.nodes.result.now o.words c.loop-node.yielded _ _ c.next.new.self _ (search rules) (search rules) c.loop-node.yielded_by _ c.in-Some.is c.next.ensures.steps) in
    let here = visited_node o.rule.now o.forecast o.words o.told k _ _ _ at c.has_bit.ensures _ true c.every_letter-every.ensures c.in-Some-visit_set.ensures.0 in
    c.push.ensures.room.1 (omega (arith, few_visited (length (names_in o.rule.now)) ns o.forecast k at.inside here, c.loop-node.invariant.count, o.rule.now.temporal))

pub loop-node-preserved-in-Some-visit_set : goal.loop-node-preserved-in-Some-visit_set
loop-node-preserved-in-Some-visit_set c =
    let o = c.args.self.now in
    let n = length (names_in o.rule.now) in
    let ns = nodes_in o.rule.now in
    let k = length c.loop-node.yielded in
    let at = at_node ns c.nodes.result.now o.words k c.in-Some.node.now c.in-Some.word.now c.nodes.ensures.value
    (zip_turn c.nodes.result.now o.words c.loop-node.yielded _ _ c.next.new.self _ (search rules) (search rules) c.loop-node.yielded_by _ c.in-Some.is c.next.ensures.steps) in
    let here = visited_node o.rule.now o.forecast o.words o.told k _ _ _ at c.has_bit.ensures _ true c.every_letter-every.ensures c.in-Some-visit_set.ensures.0 in
    let more : items c.push.new.self ≡ items c.loop-node.visits ++ c.in-Some-visit_set.letters ∷ [] = search rules in
    let word = c.in-Some-visit_set.ensures.1 ∙ ap (λ x. get_or o.words (first_of x) 0) at.node
    ∙ o.told (first_of (get_or ns k True)) (omega (arith, at.inside, visiting_part n ns o.forecast k (tidy_nodes o.rule.now) at.inside here)) in
    one_more (λ m. Visits n ns o.forecast m (items c.push.new.self)) c.loop-node.yielded (c.in-Some.node, c.in-Some.word)
    (subst (Visits n ns o.forecast (k + 1)) (sym more) (visits_more n ns o.forecast k (items c.loop-node.visits) c.loop-node.invariant c.in-Some-visit_set.letters here word))

pub loop-node-preserved : goal.loop-node-preserved
loop-node-preserved c =
    let o = c.args.self.now in
    let n = length (names_in o.rule.now) in
    let ns = nodes_in o.rule.now in
    let k = length c.loop-node.yielded in
    let at = at_node ns c.nodes.result.now o.words k c.in-Some.node.now c.in-Some.word.now c.nodes.ensures.value
    (zip_turn c.nodes.result.now o.words c.loop-node.yielded _ _ c.next.new.self _ (search rules) (search rules) c.loop-node.yielded_by _ c.in-Some.is c.next.ensures.steps) in
    let here = visited_node o.rule.now o.forecast o.words o.told k _ _ _ at c.has_bit.ensures _ false c.every_letter-every.ensures c.in_default.ensures in
    one_more (λ m. Visits n ns o.forecast m (items c.loop-node.visits)) c.loop-node.yielded (c.in-Some.node, c.in-Some.word)
    (visits_same n ns o.forecast k (items c.loop-node.visits) c.loop-node.invariant here)
