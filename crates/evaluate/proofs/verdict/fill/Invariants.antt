use Rattle.std.proofs.Common.{◌≡◌, ◌++◌, length}
use Rattle.rule.specs.Rules.{nodes_in}
use Rattle.evaluate.specs.Marks.{Told}
use Rattle.evaluate.proofs.verdict.fill.Given as goal

abbrev pub invariant-loop-k : goal.invariant-loop-k
invariant-loop-k l =
    record {
      lead : length l.lead_words ≡ length l.round.lead.now;
      told : Told (nodes_in l.rule) l.round.lead.now l.round.cycle.now l.k (l.lead_words ++ l.cycle_words);
    }
