use Rattle.std.proofs.Common.{◌≡◌, ℕ, ◌<◌, ◌≤◌, false, ◌||◌, get_or}
use Rattle.acceptor.proofs.stretch.Stretch.note.Given as goal

abbrev pub invariant-loop-set : goal.invariant-loop-set
invariant-loop-set g l = record {
  marked : (k : ℕ) → k < l.set →
      get_or l.met k false ≡ (get_or l.initial.met k false || (g.A.Acceptor.judges l.self.acceptor.now).visited l.pair k l.state);
  left : (k : ℕ) → l.set ≤ k → get_or l.met k false ≡ get_or l.initial.met k false;
}
