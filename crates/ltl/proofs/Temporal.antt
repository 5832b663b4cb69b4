-- The temporal nodes are the temporal subformulae. Assumes nothing.
use Rattle.std.proofs.Common.{◌≡◌, ℕ, ◌+◌, Bool, cond, List, [], ◌∷◌, ◌++◌, count_by, sym, refl, ap, ◌∙◌, zero-add, arith}
use Rattle.std.proofs.lemmas.List.Sums.{sum_by-cons, sum_by_push}
use Rattle.ltl.specs.declared.Node.{Node}
use Rattle.ltl.specs.declared.Node.TheVariants.{True, False, Atom, NotAtom, And, Or, Eventually, Always}
use Rattle.ltl.specs.Formula.{Formula, is_temporal}
use Rattle.ltl.specs.Arena.{meaning_of, meanings_on, temporal, temporals, arena}
use Rattle.ltl.specs.Laws.{subformulae}
use Rattle.ltl.proofs.Numbering.{numbering}

-- a node is temporal exactly when what it spells is
temporal_meaning : (known : List (Formula ℕ)) (n : Node) → is_temporal (meaning_of known n) ≡ temporal n
temporal_meaning known True = refl
temporal_meaning known False = refl
temporal_meaning known (Atom a) = refl
temporal_meaning known (NotAtom a) = refl
temporal_meaning known (And i j) = refl
temporal_meaning known (Or i j) = refl
temporal_meaning known (Eventually i) = refl
temporal_meaning known (Always i) = refl

one_if : Bool → ℕ
one_if b = cond b 1 0

counts : (known : List (Formula ℕ)) (ns : List Node) → count_by is_temporal (meanings_on known ns) ≡ count_by is_temporal known + temporals ns
unfolding one_if
counts known [] = omega arith
counts known (n ∷ ns) =
    let m = meaning_of known n in
    let push : count_by is_temporal (known ++ (m ∷ [])) ≡ count_by is_temporal known + one_if (is_temporal m) = sum_by_push (λ φ. one_if (is_temporal φ)) known m in
    let front : temporals (n ∷ ns) ≡ one_if (temporal n) + temporals ns = sum_by-cons (λ x. one_if (temporal x)) n ns in
    let alike = ap one_if (temporal_meaning known n) in
    counts (known ++ (m ∷ [])) ns ∙ omega (arith, push, front, alike)

pub temporal_count : (φ : Formula ℕ) → temporals (arena φ) ≡ count_by is_temporal (subformulae φ)
temporal_count φ = sym (ap (λ l. count_by is_temporal l) (sym (numbering φ).spells) ∙ counts [] (arena φ) ∙ zero-add (temporals (arena φ)))
