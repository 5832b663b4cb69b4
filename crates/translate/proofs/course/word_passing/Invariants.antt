use Rattle.translate.proofs.Members.{Gathering, Told}
use Rattle.translate.proofs.course.word_passing.Given as goal

abbrev pub invariant-loop-j : goal.invariant-loop-j
invariant-loop-j g l = Gathering (Told (λ J b. goal.F-post g l.test J b) l.among l.base) l.j l.word
