-- Where a rule begins within another, and how deep.
use Rattle.std.proofs.Common.{◌≡◌, ℕ, suc, ◌≤◌, max, List, ◌∷◌, ◌++◌, refl, ap, ◌∙◌, subst, arith}
use Rattle.ltl.specs.declared.Operator.{Operator}
use Rattle.ltl.specs.Formula.{Formula, depth}
use Rattle.ltl.specs.Formula.Formula.{top, bottom, atom, negated, both, either, eventually, always}
use Rattle.grammar.specs.Marks.{Mark, kind}
use Rattle.grammar.specs.Marks.Mark.{closing}
use Rattle.grammar.specs.Grammar.{Spells, Opens}
use Rattle.grammar.specs.Grammar.Opens.{here, under_finally, under_globally, on_the_left, right_of_and, right_of_or}
use Rattle.grammar.specs.Writing.{named}
use Rattle.grammar.proofs.Spelling.{joiner, pair_of, at_opening, at_finally, at_globally, extend, unique, same_joiner}

-- a formula has at least one level
pub depth_positive : (φ : Formula (List ℕ)) → 1 ≤ depth φ
depth_positive top = omega arith
depth_positive bottom = omega arith
depth_positive (atom w) = omega arith
depth_positive (negated w) = omega arith
depth_positive (both φ ψ) = omega arith
depth_positive (either φ ψ) = omega arith
depth_positive (eventually φ) = omega arith
depth_positive (always φ) = omega arith

-- two joined formulae are one level deeper than the deeper
depth_pair : (o : Operator) (φ ψ : Formula (List ℕ)) → depth (pair_of o φ ψ) ≡ suc (max (depth φ) (depth ψ))
depth_pair Operator.And φ ψ = refl
depth_pair Operator.Or φ ψ = refl

-- naming keeps the depth
pub depth_named : (names : List (List ℕ)) (φ : Formula ℕ) → depth (named names φ) ≡ depth φ
depth_named names top = refl
depth_named names bottom = refl
depth_named names (atom a) = refl
depth_named names (negated a) = refl
depth_named names (both φ ψ) = cc (depth_named names φ, depth_named names ψ)
depth_named names (either φ ψ) = cc (depth_named names φ, depth_named names ψ)
depth_named names (eventually φ) = ap suc (depth_named names φ)
depth_named names (always φ) = ap suc (depth_named names φ)

-- what stands behind the joint of a bracket's two readings
pub right_same : {φ χ : Formula (List ℕ)} {ms ms₂ ns ns₂ : List Mark} (o p : Operator) (post : List Mark) → Spells χ ms₂ (joiner p ∷ ns₂) → ms ≡ ms₂ ++ post
    → Spells φ ms (joiner o ∷ ns) → ns ≡ ns₂ ++ post
right_same {φ} {χ} {ms} {ms₂} {ns} {ns₂} o p post s e t =
    (same_joiner o p ns (ns₂ ++ post) (unique (subst (λ l. Spells φ l (joiner o ∷ ns)) e t) (extend s post)).1).1

-- where marks of a rule open another at depth d, the rule is at least so deep
pub opens_depth : {d : ℕ} {pre : List Mark} → Opens d pre → (more : List Mark) {φ : Formula (List ℕ)} {rest : List Mark} → Spells φ (pre ++ more) rest → d ≤ depth φ
opens_depth here more {φ} s = depth_positive φ
opens_depth (under_finally o) more {φ} s = let t = at_finally s in let e : depth φ ≡ suc (depth t.0) = ap depth t.1 in
    let h = opens_depth o more t.2 in omega arith
opens_depth (under_globally o) more {φ} s = let t = at_globally s in let e : depth φ ≡ suc (depth t.0) = ap depth t.1 in
    let h = opens_depth o more t.2 in omega arith
opens_depth (on_the_left o) more {φ} s =
    let p = at_opening s in
    let e : depth φ ≡ suc (max (depth p.left) (depth p.right)) = ap depth p.whole ∙ depth_pair p.operator p.left p.right in
    let h = opens_depth o more p.first in omega arith
opens_depth (right_of_and r o) more {φ} {rest} s =
    let p = at_opening s in
    let e : depth φ ≡ suc (max (depth p.left) (depth p.right)) = ap depth p.whole ∙ depth_pair p.operator p.left p.right in
    let q = right_same p.operator Operator.And more r refl p.first in
    let h = opens_depth o more (subst (λ l. Spells p.right l (closing ∷ rest)) q p.second) in omega arith
opens_depth (right_of_or r o) more {φ} {rest} s =
    let p = at_opening s in
    let e : depth φ ≡ suc (max (depth p.left) (depth p.right)) = ap depth p.whole ∙ depth_pair p.operator p.left p.right in
    let q = right_same p.operator Operator.Or more r refl p.first in
    let h = opens_depth o more (subst (λ l. Spells p.right l (closing ∷ rest)) q p.second) in omega arith

-- how a front that opens a rule stands to the marks that it begins
pub data View (x : Mark) (front post : List Mark) : ℕ → Type 0 where
  at_start : View x front post 1
  one_in : {d : ℕ} {pre : List Mark} → 4 ≤ kind x → Opens d pre → front ≡ pre ++ post → View x front post (suc d)
  right_in : {d : ℕ} {φ : Formula (List ℕ)} {ms ns : List Mark} (o : Operator) → kind x ≡ 6 → Spells φ ms (joiner o ∷ ns) → Opens d ns → front ≡ ms ++ post
      → View x front post (suc d)

-- each front that opens a rule is in one of these cases
pub view : {d : ℕ} {pre : List Mark} → Opens d pre → (x : Mark) (front post : List Mark) → x ∷ front ≡ pre ++ post → View x front post d
view here x front post e = at_start
view (under_finally {d} {ms} o) x front post e = let k : kind x ≡ 4 = cc in one_in (omega arith) o (cc)
view (under_globally {d} {ms} o) x front post e = let k : kind x ≡ 5 = cc in one_in (omega arith) o (cc)
view (on_the_left {d} {ms} o) x front post e = let k : kind x ≡ 6 = cc in one_in (omega arith) o (cc)
view (right_of_and s o) x front post e = right_in Operator.And (cc) s o (cc)
view (right_of_or s o) x front post e = right_in Operator.Or (cc) s o (cc)
