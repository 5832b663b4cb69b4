-- What writing a rule does.
use Rattle.std.specs.Prelude.{◌≡◌, ℕ, ◌+◌, cond, List, [], ◌++◌, length, take, drop, Ok, Result, nat_lt, slice_index_or}
use Rattle.refusal.specs.declared.Layer.TheVariants.{Rule}
use Rattle.refusal.specs.Answers.{Said, refused}
use Rattle.ltl.specs.Formula.Formula.{bottom}
use Rattle.ltl.specs.Arena.{meanings}
use Rattle.grammar.specs.Writing.{named, written_on, written}
use Rattle.rule.specs.declared.held.Rule.{Rule as Held}
use Rattle.rule.specs.Rules.{nodes_in, names_in}

-- a list with a word in the place of as many elements from `at` on
abbrev pub pasted : ℕ → List ℕ → List ℕ → List ℕ
pasted at w xs = take at xs ++ (w ++ drop (at + length w) xs)

-- a word stands in ys in the place of what was in xs from `at` on, and b is the place behind it
pub record Wrote (at : ℕ) (w xs : List ℕ) (b : ℕ) (ys : List ℕ) : Type 0 where
  pub after : ys ≡ pasted at w xs
  pub end : b ≡ at + length w

-- subformula k, written
abbrev pub part_in : Held → ℕ → List ℕ
part_in r k = written_on (named (names_in r) (slice_index_or (meanings (nodes_in r)) k bottom)) []

-- the whole rule, written
abbrev pub word_in : Held → List ℕ
word_in r = written (names_in r) (nodes_in r)

-- the length written, or the refusal where an output of n places is too short
abbrev pub writing : Held → ℕ → Result ℕ Said
writing r n = cond (nat_lt n (length (word_in r))) (refused 20 Rule 0) (Ok (length (word_in r)))

-- the output afterwards: the rule in front of what was there behind it, or all as it was
abbrev pub written_into : Held → List ℕ → List ℕ
written_into r out = cond (nat_lt (length out) (length (word_in r))) out (word_in r ++ drop (length (word_in r)) out)
