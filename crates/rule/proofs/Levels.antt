-- One level of the descent. Assumes nothing.
use Rattle.std.proofs.Common.{◌≡◌, ℕ, suc, ◌-◌, ◌<◌, List, refl, ap, ◌∙◌, arith}
use Rattle.refusal.specs.Answers.{and_then}
use Rattle.grammar.specs.Marks.{Placed}
use Rattle.grammar.specs.Descent.{Held, lex, too_deep_at, rule_from, descend}

module _ (names : List (List ℕ)) (stop : ℕ) (h : Held) (ms : List Placed) where
  pub no_level : (left : ℕ) → left ≡ 0 → descend left names stop h ms ≡ and_then (lex stop ms) too_deep_at
  unfolding descend
  no_level left e = ap (λ n. descend n names stop h ms) e

  level : (left : ℕ) → descend (suc left) names stop h ms ≡ and_then (lex stop ms) (λ x. rule_from (descend left names stop) names stop h x x.mark)
  unfolding descend
  level left = refl

  pub one_level : (left : ℕ) → 0 < left → descend left names stop h ms ≡ and_then (lex stop ms) (λ x. rule_from (descend (left - 1) names stop) names stop h x x.mark)
  one_level left some = let e : left ≡ suc (left - 1) = omega arith in ap (λ n. descend n names stop h ms) e ∙ level (left - 1)
