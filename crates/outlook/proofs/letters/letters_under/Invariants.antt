use Rattle.std.proofs.Common.{◌≡◌, ◌≤◌, length}
use Rattle.rule.specs.Rules.{nodes_in}
use Rattle.forecast.specs.Forecasts.{rank}
use Rattle.outlook.specs.Letters.{Told}
use Rattle.outlook.proofs.letters.letters_under.Given as goal

abbrev pub invariant-loop-k : goal.invariant-loop-k
invariant-loop-k l = record {
  size : length l.words ≡ 32;
  few : l.rank ≤ l.k;
  rank : l.rank ≡ rank (nodes_in l.rule) l.k;
  told : Told l.deciding (nodes_in l.rule) l.forecast l.k l.words;
}
