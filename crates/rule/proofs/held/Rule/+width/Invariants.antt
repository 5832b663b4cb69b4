use Rattle.rule.proofs.held.Rule.+width.Given as goal

abbrev pub decreases-width : goal.decreases-width
decreases-width l = l.k
