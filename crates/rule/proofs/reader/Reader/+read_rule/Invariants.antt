use Rattle.rule.proofs.reader.Reader.+read_rule.Given as goal

abbrev pub decreases-read_rule : goal.decreases-read_rule
decreases-read_rule l = l.left
