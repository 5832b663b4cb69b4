use Rattle.std.proofs.Common.{ℕ, ◌+◌, ◌<◌, ◌^◌, List, ◌++◌, length, get_or, subst, arith, length-append}
use Rattle.std.proofs.lemmas.List.{get_or_append_left, get_or-append-add}
use Rattle.ltl.specs.declared.Node.TheVariants.{True}
use Rattle.ltl.proofs.Meanings.{sound_tidy}
use Rattle.rule.specs.Rules.{nodes_in, names_in}
use Rattle.evaluate.specs.Marks.{Below, Cycled, Led}
use Rattle.evaluate.proofs.Truths.{told_more}
use Rattle.evaluate.proofs.verdict.fill.Goals as goal

below_front : (k : ℕ) (xs ys : List ℕ) → Below k (xs ++ ys) → Below k xs
below_front k xs ys b i l = subst (λ v. v < 2 ^ k) (get_or_append_left xs ys 0 i l) (b i (omega (arith, length-append xs ys)))

below_back : (k : ℕ) (xs ys : List ℕ) → Below k (xs ++ ys) → Below k ys
below_back k xs ys b i l = subst (λ v. v < 2 ^ k) (get_or-append-add xs ys i 0) (b (length xs + i) (omega (arith, length-append xs ys)))

pub mark_cycle-requires-clause-below : goal.mark_cycle-requires-clause-below
mark_cycle-requires-clause-below c = below_back c.loop-k.k c.loop-k.lead_words c.loop-k.cycle_words c.loop-k.invariant.told.small

pub mark_lead-requires-clause-below : goal.mark_lead-requires-clause-below
mark_lead-requires-clause-below c = below_front c.loop-k.k c.loop-k.lead_words c.loop-k.cycle_words c.loop-k.invariant.told.small

pub loop-k-preserved : goal.loop-k-preserved
loop-k-preserved c =
    let rule = c.args.rule.now in
    let ns = nodes_in rule in
    let lead = c.args.round.lead.now in
    let cycle = c.args.round.cycle.now in
    let k = c.loop-k.k in
    let lead_words = c.loop-k.lead_words in
    let cycle_words = c.loop-k.cycle_words in
    let lead_now = c.mark_lead.new.words in
    let cycle_now = c.mark_cycle.new.words in
    let told = c.loop-k.invariant.told in
    let within : k < length ns = subst (λ l. k < length l) c.nodes-node-items.ensures.value (omega arith) in
    let fits = sound_tidy (length (names_in rule)) ns rule.sound k within in
    let cycled = subst (λ l. Cycled (get_or l k True) k cycle cycle_words cycle_now) c.nodes-node-items.ensures.value c.mark_cycle.ensures in
    let led =
    subst (λ b. Led (get_or ns k True) k lead b lead_words lead_now) c.has_bit-behind.ensures
    (subst (λ l. Led (get_or l k True) k lead c.has_bit-behind.result lead_words lead_now) c.nodes-node-items.ensures.value c.mark_lead.ensures) in
    record {
      lead = omega arith;
      told =
          told_more ns lead cycle k lead_words cycle_words lead_now cycle_now c.requires.some within fits c.loop-k.invariant.lead told cycled led;
    }
