use Rattle.std.proofs.Common.{◌≡◌, ℕ, ◌^◌, ◌<◌, cond, length, get_or}
use Rattle.std.specs.List.{sum_by}
use Rattle.ltl.specs.Words.{bit}
use Rattle.outlook.proofs.recasts.recasts_of.Given as goal

-- each letter has the bits of the words so far
abbrev pub invariant-loop-rank : goal.invariant-loop-rank
invariant-loop-rank l = record {
  size : length l.row ≡ 64;
  bits : (a : ℕ) → a < l.letters → get_or l.row a 0 ≡ sum_by (λ y. cond (bit a y.1.1.now) (2 ^ y.0) 0) l.yielded;
}
