use Rattle.std.proofs.Common.{◌≡◌, ℕ, ◌≤◌, get_or}
use Rattle.outlook.specs.Letters.{Added}
use Rattle.outlook.proofs.recasts.add_bit.Given as goal

-- the letters so far have their bit, the others are as they were
abbrev pub invariant-loop-a : goal.invariant-loop-a
invariant-loop-a l = record {
  added : Added l.word l.rank l.a l.initial.row l.row;
  others : (j : ℕ) → l.a ≤ j → get_or l.row j 0 ≡ get_or l.initial.row j 0;
}
