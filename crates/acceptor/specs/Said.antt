-- The judge's answers as judgements, and an acceptor's meaning as one machine.
use Rattle.std.specs.Prelude.{ℕ, Some, None, Option}
use Rattle.machine.specs.Machines.{Course, Pairs, Machine}
use Rattle.machine.specs.Judging as judging
use Rattle.acceptor.specs.declared.judgement.Judgement.{Judgement}

abbrev pub told_by : Option ℕ → ℕ → judging.Judgement
told_by (Some pair) passes = judging.accepted pair passes
told_by None passes = judging.rejected passes

abbrev pub told : Judgement → judging.Judgement
told j = told_by j.accepting j.passes

abbrev pub machine : {S : Type 0} → Course S → Pairs S → Machine S
machine c p = record { course = c; pairs = p }
