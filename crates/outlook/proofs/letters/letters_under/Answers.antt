use mir.Val.{bool_byte}
use Rattle.std.proofs.Common.{◌≡◌, sym, Bool, true, false, refl, ◌+◌, ◌<◌, ◌≤◌, lit≤, cond, length, get_or, ap, ◌∙◌, ap₂, arith, length-set}
use Rattle.ltl.specs.declared.Node.TheVariants.{True}
use Rattle.ltl.specs.Words.{bit}
use Rattle.ltl.specs.Arena.{temporal}
use Rattle.rule.specs.Rules.{nodes_in}
use Rattle.outlook.specs.Letters.{held_by}
use Rattle.outlook.proofs.Held.{held_next, told_more, rank_more}
use Rattle.outlook.proofs.Ruled.{tidy_nodes}
use Rattle.outlook.proofs.letters.letters_under.Goals as goal

as_number : (b : Bool) → bool_byte b ≡ cond b 1 0
as_number true = refl
as_number false = refl

byte_few : (b : Bool) → bool_byte b ≤ 1
byte_few true = lit≤ tt
byte_few false = lit≤ tt

pub loop-k-preserved : goal.loop-k-preserved
loop-k-preserved c =
    let rule = c.args.rule.now in
    let ns = nodes_in rule in
    let d = c.args.deciding in
    let J = c.args.forecast in
    let k = c.loop-k.k in
    let ws = c.loop-k.words in
    let inv = c.loop-k.invariant in
    let node = ap (λ xs. get_or xs k True) c.nodes-node-items.ensures.value in
    let inside : k < length ns = omega (arith, c.loop-k-test.true, ap length c.nodes-node-items.ensures.value) in
    let word = c.held.ensures ∙ ap₂ (held_by d ws) node (c.has_bit.ensures ∙ ap (λ r. bit r J) inv.rank) ∙ held_next d ns J k ws (tidy_nodes rule) inside inv.told in
    let temporal = c.from-rank.ensures ∙ as_number c.is_temporal.result ∙ ap (λ b. cond b 1 0) (c.is_temporal.ensures ∙ ap temporal node) in
    record {
      size = length-set ws k c.held.result ∙ inv.size;
      few = omega (arith, c.from-rank.ensures, byte_few c.is_temporal.result);
      rank = ap₂ ◌+◌ inv.rank temporal ∙ sym (rank_more ns k inside);
      told = told_more d ns J k ws c.held.result (omega (arith, inv.size, c.nodes-node-items.ensures.few)) inv.told word;
    }
