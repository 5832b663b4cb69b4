use Rattle.std.proofs.Common.{◌≡◌, [], ℕ, List}
use Rattle.std.specs.Iterator.{AlwaysYields}
use Rattle.std.specs.Str.Iter.{split_steps}
use Rattle.std.specs.Str.Pattern.{FindsChar}
use Rattle.names.specs.Listed.{spelled_names}
use Rattle.support.specs.Tables.{declared_all, listed}
use Rattle.support.proofs.declare.Given as goal

-- the words still to come, declared behind those that are, are all the words declared
abbrev pub invariant-loop-word : goal.invariant-loop-word
invariant-loop-word l =
    (rest : List (List ℕ)) × AlwaysYields (split_steps FindsChar (λ a b. b ≡ a)) (λ x. x.now) l.word-iterator rest
    × (declared_all (spelled_names l.names) rest ≡ declared_all [] (listed l.words))
