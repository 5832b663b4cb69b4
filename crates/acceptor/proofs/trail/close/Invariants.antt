use Rattle.acceptor.specs.Walks.{turned, Underway}
use Rattle.acceptor.proofs.trail.close.Given as goal

abbrev pub invariant-loop-k : goal.invariant-loop-k
invariant-loop-k g l = Underway (turned (g.A.Course.moves l.course) l.initial.state l.cycle) l.trail l.initial.state l.k l.state
