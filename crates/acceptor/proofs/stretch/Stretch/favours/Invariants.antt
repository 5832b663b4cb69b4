use Rattle.acceptor.specs.Said.{machine}
use Rattle.acceptor.specs.Walks.{Toured}
use Rattle.acceptor.proofs.stretch.Stretch.favours.Given as goal

abbrev pub invariant-loop-turn : goal.invariant-loop-turn
invariant-loop-turn g l =
    let m = machine (g.A.Course.moves l.self.acceptor.now) (g.A.Acceptor.judges l.self.acceptor.now) in
    Toured m l.pair l.self.from l.self.cycle.now l._turn l.met l.state
