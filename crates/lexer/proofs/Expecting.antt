-- What is wanted of the next mark. Assumes nothing.
use Rattle.std.proofs.Common.{◌≡◌, Bool, true, false, cond, List, Ok, Err, Result, Option, Some, None, refl, ap, ◌∙◌}
use Rattle.ltl.specs.declared.Operator.{Operator}
use Rattle.refusal.specs.declared.Refusal.{Refusal}
use Rattle.refusal.specs.Answers.{Said, answer, and_then}
use Rattle.grammar.specs.Marks.{Mark, Placed, is_kind}
use Rattle.grammar.specs.Marks.Mark.{conjunction, disjunction}
use Rattle.grammar.specs.Descent.{Lexed, joint, due, unexpected}
use Rattle.lexer.specs.Tokens.{given_or, taken_by}

-- nothing more is wanted of a mark than its kind
abbrev pub of_kind : Mark → Mark → Option (Unit {0})
of_kind k m = cond (is_kind k m) (Some tt) None

-- the operator that a mark is
abbrev pub operator_of : Mark → Option Operator
operator_of m = cond (is_kind conjunction m) (Some Operator.And) (cond (is_kind disjunction m) (Some Operator.Or) None)

kind_taken : (b : Bool) (x : Lexed) → and_then (given_or (cond b (Some (tt {0})) None) x.place x.rest) (λ p. Ok p.1) ≡ cond b (Ok x.rest) (unexpected x.place)
kind_taken true x = refl
kind_taken false x = refl

due_lexed : (k : Mark) (l : Result Lexed Said) → and_then (and_then l (taken_by (of_kind k))) (λ p. Ok p.1) ≡ and_then l (due k)
due_lexed k (Ok x) = kind_taken (is_kind k x.mark) x
due_lexed k (Err e) = refl

rest_answered : (rest : List Placed) (r : Result (Unit {0}) Refusal) → answer (λ _. rest) r ≡ and_then {A = Unit {0} × List Placed} (answer (λ x. (x, rest)) r) (λ p. Ok p.1)
rest_answered rest (Ok x) = refl
rest_answered rest (Err e) = refl

-- a mark that is taken by its kind is the one that is due
pub due_taken : (k : Mark) (l : Result Lexed Said) (rest : List Placed) (r : Result (Unit {0}) Refusal) → answer (λ x. (x, rest)) r ≡ and_then l (taken_by (of_kind k)) → answer (λ _. rest) r ≡ and_then l (due k)
due_taken k l rest r h = rest_answered rest r ∙ ap (λ z. and_then z (λ p. Ok p.1)) h ∙ due_lexed k l

operator_taken : (a b : Bool) (x : Lexed) → given_or (cond a (Some Operator.And) (cond b (Some Operator.Or) None)) x.place x.rest ≡ cond a (Ok (Operator.And, x.rest)) (cond b (Ok (Operator.Or, x.rest)) (unexpected x.place))
operator_taken true b x = refl
operator_taken false true x = refl
operator_taken false false x = refl

-- the operator that is taken joins
pub joint_taken : (l : Result Lexed Said) → and_then l (taken_by operator_of) ≡ and_then l joint
joint_taken (Ok x) = operator_taken (is_kind conjunction x.mark) (is_kind disjunction x.mark) x
joint_taken (Err e) = refl
