use Rattle.acceptor.specs.Said.{machine}
use Rattle.acceptor.specs.Walks.{Crossed}
use Rattle.acceptor.proofs.stretch.Stretch.cross.Given as goal

abbrev pub invariant-loop-letter : goal.invariant-loop-letter
invariant-loop-letter g l =
    let m = machine (g.A.Course.moves l.self.acceptor.now) (g.A.Acceptor.judges l.self.acceptor.now) in
    Crossed m l.pair l.initial.state l.self.cycle.now l.letter-index l.initial.met l.met l.state
