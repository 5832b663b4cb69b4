-- Facts on what marks spell.
use Rattle.std.proofs.Common.{◌≡◌, ℕ, ◌<◌, ◌⊎◌, List, [], ◌∷◌, ◌++◌, sym, refl, ap, subst, arith}
use mathlib.Core.Logic.◌⊎◌.{inl, inr}
use Rattle.ltl.specs.declared.Operator.{Operator}
use Rattle.ltl.specs.Formula.{Formula}
use Rattle.ltl.specs.Formula.Formula.{both, either, eventually, always}
use Rattle.grammar.specs.Marks.{Mark, kind}
use Rattle.grammar.specs.Marks.Mark.{negation, finally, globally, opening, conjunction, disjunction, closing}
use Rattle.grammar.specs.Grammar.{Spells}
use Rattle.grammar.specs.Grammar.Spells.{spell_top, spell_bottom, spell_atom, spell_negated, spell_eventually, spell_always, spell_both, spell_either}

-- what joins two rules
abbrev pub joiner : Operator → Mark
joiner Operator.And = conjunction
joiner Operator.Or = disjunction

-- two formulae joined
abbrev pub pair_of : {A : Type 0} → Operator → Formula A → Formula A → Formula A
pair_of Operator.And φ ψ = both φ ψ
pair_of Operator.Or φ ψ = either φ ψ

-- the kind of the first mark, at the end that of `finish`
abbrev pub first_kind : List Mark → ℕ
first_kind [] = 11
first_kind (m ∷ ms) = kind m

-- two rules in brackets are a rule
pub spell_pair : (o : Operator) {φ ψ : Formula (List ℕ)} {ms ns rest : List Mark} → Spells φ ms (joiner o ∷ ns) → Spells ψ ns (closing ∷ rest)
    → Spells (pair_of o φ ψ) (opening ∷ ms) rest
spell_pair Operator.And s t = spell_both s t
spell_pair Operator.Or s t = spell_either s t

-- a rule that begins with a bracket is two rules joined
pub record Paired (χ : Formula (List ℕ)) (ms rest : List Mark) : Type 0 where
  pub operator : Operator
  pub left : Formula (List ℕ)
  pub right : Formula (List ℕ)
  pub behind : List Mark
  pub whole : χ ≡ pair_of operator left right
  pub first : Spells left ms (joiner operator ∷ behind)
  pub second : Spells right behind (closing ∷ rest)

-- what a bracket opens
pub at_opening : {χ : Formula (List ℕ)} {ms rest : List Mark} → Spells χ (opening ∷ ms) rest → Paired χ ms rest
at_opening (spell_both {φ} {ψ} {ms} {ns} s t) = record { operator = Operator.And; left = φ; right = ψ; behind = ns; whole = refl; first = s; second = t }
at_opening (spell_either {φ} {ψ} {ms} {ns} s t) = record { operator = Operator.Or; left = φ; right = ψ; behind = ns; whole = refl; first = s; second = t }

-- what stands behind F is a rule
pub at_finally : {χ : Formula (List ℕ)} {ms rest : List Mark} → Spells χ (finally ∷ ms) rest → (φ : Formula (List ℕ)) × (χ ≡ eventually φ) × Spells φ ms rest
at_finally (spell_eventually {φ} s) = (φ, refl, s)

-- the same behind G
pub at_globally : {χ : Formula (List ℕ)} {ms rest : List Mark} → Spells χ (globally ∷ ms) rest → (φ : Formula (List ℕ)) × (χ ≡ always φ) × Spells φ ms rest
at_globally (spell_always {φ} s) = (φ, refl, s)

-- behind `!` stands a name
pub at_negation : {χ : Formula (List ℕ)} {ms rest : List Mark} → Spells χ (negation ∷ ms) rest → first_kind ms ≡ 2
at_negation spell_negated = refl

-- the marks that a rule begins with are the first seven kinds
pub spells_begins : {χ : Formula (List ℕ)} {ms rest : List Mark} → Spells χ ms rest → first_kind ms < 7
spells_begins spell_top = omega arith
spells_begins spell_bottom = omega arith
spells_begins spell_atom = omega arith
spells_begins spell_negated = omega arith
spells_begins (spell_eventually s) = omega arith
spells_begins (spell_always s) = omega arith
spells_begins (spell_both s t) = omega arith
spells_begins (spell_either s t) = omega arith

-- more marks may stand behind
pub extend : {χ : Formula (List ℕ)} {ms rest : List Mark} → Spells χ ms rest → (more : List Mark) → Spells χ (ms ++ more) (rest ++ more)
extend spell_top more = spell_top
extend spell_bottom more = spell_bottom
extend spell_atom more = spell_atom
extend spell_negated more = spell_negated
extend (spell_eventually s) more = spell_eventually (extend s more)
extend (spell_always s) more = spell_always (extend s more)
extend (spell_both s t) more = spell_both (extend s more) (extend t more)
extend (spell_either s t) more = spell_either (extend s more) (extend t more)

-- equal joints are of one operator
pub same_joiner : (o p : Operator) (xs ys : List Mark) → joiner o ∷ xs ≡ joiner p ∷ ys → (o ≡ p) × (xs ≡ ys)
same_joiner Operator.And Operator.And xs ys e = (refl, cc)
same_joiner Operator.And Operator.Or xs ys e = let z : ◌≡◌ {A = ℕ} 0 1 = cc in let w : ⊥ = omega arith in absurd w
same_joiner Operator.Or Operator.And xs ys e = let z : ◌≡◌ {A = ℕ} 0 1 = cc in let w : ⊥ = omega arith in absurd w
same_joiner Operator.Or Operator.Or xs ys e = (refl, cc)

-- a joint's kind
pub joiner_kind : (o : Operator) (xs : List Mark) → (first_kind (joiner o ∷ xs) ≡ 7) ⊎ (first_kind (joiner o ∷ xs) ≡ 8)
joiner_kind Operator.And xs = inl refl
joiner_kind Operator.Or xs = inr refl

-- the same formula, and the same behind it
abbrev Same : Formula (List ℕ) → Formula (List ℕ) → List Mark → List Mark → Type 0
Same φ ψ rest rest' = (φ ≡ ψ) × (rest ≡ rest')

-- two readings of a bracket are the same where their parts are
pair_same : {φ φ' ψ ψ' : Formula (List ℕ)} {ns ns' rest rest' : List Mark} (o p : Operator) → Same φ φ' (joiner o ∷ ns) (joiner p ∷ ns')
    → Spells ψ' ns' (closing ∷ rest')
    → (Spells ψ' ns (closing ∷ rest') → Same ψ ψ' (closing ∷ rest) (closing ∷ rest')) → Same (pair_of o φ ψ) (pair_of p φ' ψ') rest rest'
pair_same {φ} {φ'} {ψ} {ψ'} {ns} {ns'} {rest} {rest'} o p e t f =
    let q = same_joiner o p ns ns' e.1 in
    let g = f (subst (λ (x : List Mark). Spells ψ' x (closing ∷ rest')) (sym q.1) t) in
    let e₀ : φ ≡ φ' = e.0 in let g₀ : ψ ≡ ψ' = g.0 in let g₁ : closing ∷ rest ≡ closing ∷ rest' = g.1 in let q₀ : o ≡ p = q.0 in
    (cc, cc)

-- marks spell one formula and no other
pub unique : {φ ψ : Formula (List ℕ)} {ms rest rest' : List Mark} → Spells φ ms rest → Spells ψ ms rest' → (φ ≡ ψ) × (rest ≡ rest')
unique spell_top spell_top = (refl, refl)
unique spell_bottom spell_bottom = (refl, refl)
unique spell_atom spell_atom = (refl, refl)
unique spell_negated spell_negated = (refl, refl)
unique (spell_eventually s) (spell_eventually t) = let e = unique s t in (ap eventually e.0, e.1)
unique (spell_always s) (spell_always t) = let e = unique s t in (ap always e.0, e.1)
unique (spell_both s s') (spell_both t t') = pair_same Operator.And Operator.And (unique s t) t' (λ u. unique s' u)
unique (spell_both s s') (spell_either t t') = pair_same Operator.And Operator.Or (unique s t) t' (λ u. unique s' u)
unique (spell_either s s') (spell_both t t') = pair_same Operator.Or Operator.And (unique s t) t' (λ u. unique s' u)
unique (spell_either s s') (spell_either t t') = pair_same Operator.Or Operator.Or (unique s t) t' (λ u. unique s' u)
