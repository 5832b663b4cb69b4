use Rattle.std.proofs.Common.{get_or}
use Rattle.evaluate.specs.Marks.{value}
use Rattle.evaluate.proofs.Marking.{Partly}
use Rattle.evaluate.proofs.subformula.Subformula.mark_cycle.Given as goal

abbrev pub invariant-loop-i : goal.invariant-loop-i
invariant-loop-i l =
    let words = l.initial.words in
    Partly l.self.number 0 l.i (λ j. value l.self.node (get_or l.cycle j 0) (get_or words j 0) l.next) words l.words
