use Rattle.std.proofs.Common.{◌≡◌, drop, min, length, ℕ, length-take, ap, ◌∙◌, arith}
use Rattle.turning.specs.Turns.{next_turns}
use Rattle.degeneralize.proofs.Moving.{moved_more, moved_all}
use Rattle.degeneralize.proofs.turns.turns_after.Goals as goal

pub loop-pair-preserved : goal.loop-pair-preserved
loop-pair-preserved g c =
    moved_more (g.A.Acceptor.judges c.args.inner.now) c.args.state.now c.args.turns.now c.loop-pair.turn-items
    (drop c.min-pairs.result c.args.turns.now) c.loop-pair.pair (omega arith) c.loop-pair.invariant c.turn_after.ensures

pub returns : goal.returns
returns g c =
    let pairs = g.A.Acceptor.judges c.args.inner.now in
    let end : c.loop-pair.pair ≡ min pairs.count (length c.args.turns.now) = omega (arith, length-take {A = ℕ}) in
    c.loop-pair.invariant ∙ ap (next_turns pairs c.args.state.now c.args.turns.now) end ∙ moved_all pairs c.args.state.now c.args.turns.now pairs.count
