use Rattle.std.proofs.Common.{◌≡◌, ◌+◌, length, get_or}
use Rattle.evaluate.specs.Marks.{value}
use Rattle.evaluate.proofs.Marking.{Partly, bit_at}
use Rattle.evaluate.proofs.subformula.Subformula.mark_lead.Given as goal

abbrev pub invariant-loop-i : goal.invariant-loop-i
invariant-loop-i l =
    let k = l.self.number in
    let words = l.initial.words in
    record {
      carried : l.next ≡ bit_at k l.words l.behind l.i;
      marked : Partly k l.i (length l.lead) (λ j. value l.self.node (get_or l.lead j 0) (get_or words j 0) (bit_at k l.words l.behind (j + 1))) words l.words;
    }
