use Rattle.std.proofs.Common.{refl, ◌∙◌, arith}
use Rattle.acceptor.specs.Walks.{turned}
use Rattle.acceptor.proofs.Walking.{along_fold, next_cycle}
use Rattle.acceptor.proofs.Places.{underway_more, underway_closes}
use Rattle.acceptor.proofs.trail.close.Goals as goal

pub returns-in-Some : goal.returns-in-Some
returns-in-Some g c =
    let m = g.A.Course.moves c.args.course.now in
    let b = turned m c.args.first c.args.cycle.now in
    let next = next_cycle m c.args.first c.args.cycle.now c.loop-k.k c.loop-k.invariant.here (c.after-state.ensures ∙ along_fold m c.loop-k.state c.args.cycle.now) in
    underway_closes b c.loop-k.trail c.args.first c.loop-k.k (omega arith) c.loop-k.invariant next
    c.in-Some.from c.in-Some.ensures.0 c.in-Some.ensures.1

pub loop-k-init : goal.loop-k-init
loop-k-init g c = record {
  here = refl;
  kept = λ i h. let no : ⊥ = omega arith in absurd no;
  apart = λ i j h l e. omega arith;
}

pub loop-k-preserved : goal.loop-k-preserved
loop-k-preserved g c =
    let m = g.A.Course.moves c.args.course.now in
    let b = turned m c.args.first c.args.cycle.now in
    let next = next_cycle m c.args.first c.args.cycle.now c.loop-k.k c.loop-k.invariant.here (c.after-state.ensures ∙ along_fold m c.loop-k.state c.args.cycle.now) in
    underway_more b c.loop-k.trail c.args.first c.loop-k.k (omega arith) c.loop-k.invariant next c.in_default.ensures

pub returns : goal.returns
returns g c = λ i j h l. c.loop-k.invariant.apart i j h (omega arith)
