-- same_node and same_formula decide equality.
use Rattle.std.proofs.Common.{◌≡◌, ℕ, true, false, cond, ◌&&◌, eqb, Decides, sym, refl, ◌∙◌, subst}
use native.Mathlib.Decide.{ℕ_discrete}
use Rattle.std.proofs.lemmas.Bool.{false≢true, eqb-true, eq-eqb, and_parts, and_from}
use Rattle.ltl.specs.declared.Node.{Node}
use Rattle.ltl.specs.declared.Node.TheVariants.{True, False, Atom, NotAtom, And, Or, Eventually, Always}
use Rattle.ltl.specs.Formula.{Formula, formula_discrete}
use Rattle.ltl.specs.Arena.{kind_of, first_of, second_of, same_node}
use Rattle.ltl.specs.Laws.{same_formula}

-- the node of a kind and its two numbers
abbrev decode : ℕ → ℕ → ℕ → Node
decode k a b = cond (eqb k 0) True (cond (eqb k 1) False (cond (eqb k 2) (Atom a) (cond (eqb k 3) (NotAtom a)
    (cond (eqb k 4) (And a b) (cond (eqb k 5) (Or a b) (cond (eqb k 6) (Eventually a) (Always a)))))))

-- kind and numbers give the node back
decoded : (n : Node) → decode (kind_of n) (first_of n) (second_of n) ≡ n
decoded True = refl
decoded False = refl
decoded (Atom a) = refl
decoded (NotAtom a) = refl
decoded (And i j) = refl
decoded (Or i j) = refl
decoded (Eventually i) = refl
decoded (Always i) = refl

-- nodes of one kind and with the same numbers are equal
same_parts : (m n : Node) → kind_of m ≡ kind_of n → first_of m ≡ first_of n → second_of m ≡ second_of n → m ≡ n
same_parts m n k f s = sym (decoded m) ∙ (λ i. decode (k i) (f i) (s i)) ∙ decoded n

-- a node is the same as itself
same_node_refl : (n : Node) → same_node n n ≡ true
same_node_refl n = and_from _ _ (eq-eqb (kind_of n) _ refl) (and_from _ _ (eq-eqb (first_of n) _ refl) (eq-eqb (second_of n) _ refl))

-- same_node tests equality
pub same_node_decides : (m n : Node) → Decides (same_node m n) (m ≡ n)
same_node_decides m n = (yes_same, λ e. subst (λ x. same_node m x ≡ true) e (same_node_refl m))
  where
    yes_same : same_node m n ≡ true → m ≡ n
    yes_same e =
        let k = and_parts (eqb (kind_of m) (kind_of n)) (eqb (first_of m) (first_of n) && eqb (second_of m) (second_of n)) e in
        let p = and_parts (eqb (first_of m) (first_of n)) (eqb (second_of m) (second_of n)) k.1 in
        same_parts m n (eqb-true _ _ k.0) (eqb-true _ _ p.0) (eqb-true _ _ p.1)

-- a decision as a test
tested : {P : Type 0} (d : Dec P) → Decides (elim d [ yes e ↦ true | no e ↦ false ]) P
tested (yes e) = (λ h. e, λ h. refl)
tested (no e) = (λ h. absurd (false≢true h), λ h. absurd (e h))

-- same_formula tests equality
pub same_formula_decides : (φ ψ : Formula ℕ) → Decides (same_formula φ ψ) (φ ≡ ψ)
same_formula_decides φ ψ = tested (formula_discrete ℕ_discrete φ ψ)
