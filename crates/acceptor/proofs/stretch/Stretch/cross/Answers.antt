use Rattle.std.proofs.Common.{◌≡◌, false, length, get_or, sym, refl, ◌∙◌, subst, arith}
use Rattle.std.proofs.Math.Bool.{or-false}
use Rattle.acceptor.specs.Said.{machine}
use Rattle.acceptor.specs.Walks.{Crossed}
use Rattle.acceptor.proofs.Walking.{crossed_meets, crossed_more}
use Rattle.acceptor.proofs.stretch.Stretch.cross.Goals as goal

pub returns-then-avoids : goal.returns-then-avoids
returns-then-avoids g c =
    let m = machine (g.A.Course.moves c.args.self.now.acceptor.now) (g.A.Acceptor.judges c.args.self.now.acceptor.now) in
    crossed_meets m c.args.pair c.args.from c.args.self.now.cycle.now c.loop-letter.letter-index c.loop-letter.invariant
    (omega arith) (sym c.avoids.ensures.value ∙ c.if-avoids.true)

pub loop-letter-init : goal.loop-letter-init
loop-letter-init g c = record { clear = refl; arrives = refl; notes = λ set h. sym (or-false (get_or c.args.met.now set false)) }

pub loop-letter-preserved : goal.loop-letter-preserved
loop-letter-preserved g c =
    let m = machine (g.A.Course.moves c.args.self.now.acceptor.now) (g.A.Acceptor.judges c.args.self.now.acceptor.now) in
    crossed_more m c.args.pair c.args.from c.args.self.now.cycle.now c.loop-letter.letter-index c.loop-letter.invariant
    (omega arith) (sym c.avoids.ensures.value ∙ c.if-avoids.false) c.note.ensures c.next-state.ensures.value

pub returns : goal.returns
returns g c =
    let m = machine (g.A.Course.moves c.args.self.now.acceptor.now) (g.A.Acceptor.judges c.args.self.now.acceptor.now) in
    let end : c.loop-letter.letter-index ≡ length c.args.self.now.cycle.now = omega arith in
    subst (λ n. Crossed m c.args.pair c.args.from c.args.self.now.cycle.now n c.args.met.now c.loop-letter.met c.loop-letter.state) end
    c.loop-letter.invariant
