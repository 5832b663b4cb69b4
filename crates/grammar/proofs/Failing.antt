-- Where marks stop being a rule that the reader takes, and why.
use Rattle.std.proofs.Common.{◌≡◌, ℕ, zero, suc, ◌+◌, ◌<◌, ◌≤◌, true, false, List, [], ◌∷◌, ◌++◌, length, sym, refl, ap, ◌∙◌, subst, inl, inr, arith, length-append}
use Rattle.ltl.specs.declared.Operator.{Operator}
use Rattle.ltl.specs.Formula.{Formula, depth, Below}
use Rattle.ltl.specs.Formula.Formula.{top, bottom, atom, negated, both, either, eventually, always}
use Rattle.names.specs.Names.{has}
use Rattle.grammar.specs.Marks.{Mark, kind}
use Rattle.grammar.specs.Marks.Mark.{verum, falsum, name, negation, finally, globally, opening, conjunction, disjunction, closing, foreign, finish}
use Rattle.grammar.specs.Grammar.{Spells, Opens}
use Rattle.grammar.specs.Grammar.Spells.{spell_top, spell_bottom, spell_atom, spell_negated, spell_eventually, spell_always, spell_both, spell_either}
use Rattle.grammar.specs.Grammar.Opens.{here, under_finally, under_globally, on_the_left, right_of_and, right_of_or}
use Rattle.grammar.specs.Writing.{named}
use Rattle.grammar.proofs.Spelling.{joiner, first_kind, at_opening, at_finally, at_globally, at_negation, spells_begins, extend, unique, joiner_kind}
use Rattle.grammar.proofs.Naming.{has_nth}
use Rattle.grammar.proofs.Going.{Completes, completed, via_finally, via_globally, via_left, via_right, joint_completes, closing_completes, begins_completes, not_within}
use Rattle.grammar.proofs.Depth.{right_same, opens_depth, depth_named, View, view}
use Rattle.grammar.proofs.Depth.View.{at_start, one_in, right_in}

pub data Reason : Type 0 where
  stuck : Reason
  deep : Reason
  unknown : Reason

-- a formula of declared names within the depth
pub record Good (names : List (List ℕ)) (left : ℕ) (φ : Formula ℕ) : Type 0 where
  pub below : Below (length names) φ
  pub shallow : depth φ ≤ left

-- with `left` levels to go, behind the first marks no reading goes on, and these are the marks from there on
pub data Fails (names : List (List ℕ)) : ℕ → Reason → List Mark → List Mark → Type 0 where
  no_rule : {left : ℕ} {back : List Mark} → 7 ≤ first_kind back → Fails names left stuck [] back
  no_name : {left : ℕ} {back : List Mark} → (first_kind back ≡ 2 → ⊥) → Fails names (suc left) stuck (negation ∷ []) back
  too_far : {m : Mark} {back : List Mark} → kind m < 7 → Fails names zero deep [] (m ∷ back)
  no_atom : {left : ℕ} {w : List ℕ} {back : List Mark} → has names w ≡ false → Fails names (suc left) unknown [] (name w ∷ back)
  no_negated : {left : ℕ} {w : List ℕ} {back : List Mark} → has names w ≡ false → Fails names (suc left) unknown (negation ∷ []) (name w ∷ back)
  in_finally : {left : ℕ} {k : Reason} {front back : List Mark} → Fails names left k front back → Fails names (suc left) k (finally ∷ front) back
  in_globally : {left : ℕ} {k : Reason} {front back : List Mark} → Fails names left k front back → Fails names (suc left) k (globally ∷ front) back
  in_left : {left : ℕ} {k : Reason} {front back : List Mark} → Fails names left k front back → Fails names (suc left) k (opening ∷ front) back
  no_joint : {left : ℕ} {φ : Formula ℕ} {front back : List Mark} → Good names left φ → Spells (named names φ) front [] → (first_kind back ≡ 7 → ⊥)
      → (first_kind back ≡ 8 → ⊥) → Fails names (suc left) stuck (opening ∷ front) back
  in_right : {left : ℕ} {k : Reason} {φ : Formula ℕ} {ms front back : List Mark} (o : Operator) → Good names left φ
      → Spells (named names φ) ms (joiner o ∷ front) → Fails names left k front back
      → Fails names (suc left) k (opening ∷ ms) back
  no_closing : {left : ℕ} {φ ψ : Formula ℕ} {ms ns back : List Mark} (o : Operator) → Good names left φ → Good names left ψ
      → Spells (named names φ) ms (joiner o ∷ ns) → Spells (named names ψ) ns [] → (first_kind back ≡ 9 → ⊥)
      → Fails names (suc left) stuck (opening ∷ ms) back

-- the mark that a reason names stands first behind the front
abbrev pub Fit : Reason → Mark → List Mark → Type 0
Fit stuck m back = Unit {0}
Fit deep m back = (rest : List Mark) × (back ≡ m ∷ rest)
Fit unknown m back = (rest : List Mark) × (back ≡ m ∷ rest)

pub record Goes (k : Reason) (front back : List Mark) : Type 0 where
  pub mark : Mark
  pub fit : Fit k mark back
  pub goes : Completes front (mark ∷ [])

-- the front goes on to a rule by some mark, and by its own where it is too deep or not declared
pub goes_on : {names : List (List ℕ)} {left : ℕ} {k : Reason} {front back : List Mark} → Fails names left k front back → Goes k front back
goes_on (no_rule h) = record { mark = verum; fit = tt; goes = completed [] (verum ∷ []) [] spell_top }
goes_on (no_name h) = record { mark = name []; fit = tt; goes = completed (negation ∷ []) (name [] ∷ []) [] spell_negated }
goes_on (too_far {m} {back} h) = record { mark = m; fit = (back, refl); goes = begins_completes m h }
goes_on (no_atom {left} {w} {back} h) = record { mark = name w; fit = (back, refl); goes = completed [] (name w ∷ []) [] spell_atom }
goes_on (no_negated {left} {w} {back} h) = record { mark = name w; fit = (back, refl); goes = completed (negation ∷ []) (name w ∷ []) [] spell_negated }
goes_on (in_finally f) = let g = goes_on f in record { mark = g.mark; fit = g.fit; goes = via_finally g.goes }
goes_on (in_globally f) = let g = goes_on f in record { mark = g.mark; fit = g.fit; goes = via_globally g.goes }
goes_on (in_left f) = let g = goes_on f in record { mark = g.mark; fit = g.fit; goes = via_left g.goes }
goes_on (no_joint g s a b) = record { mark = conjunction; fit = tt; goes = joint_completes s }
goes_on (in_right o h s f) = let g = goes_on f in record { mark = g.mark; fit = g.fit; goes = via_right o s g.goes }
goes_on (no_closing o g h s t c) = record { mark = closing; fit = tt; goes = closing_completes o s t }

-- no rule ends within the front
pub not_ended : {names : List (List ℕ)} {left : ℕ} {k : Reason} {front back : List Mark} {φ : Formula (List ℕ)} {rest : List Mark}
    → Fails names left k front back → Spells φ front rest → ⊥
not_ended f s = let g = goes_on f in not_within g.mark g.goes s

-- where it is stuck, no rule goes on with a mark of this kind
pub stuck_there : {names : List (List ℕ)} {left : ℕ} {front back : List Mark} → Fails names left stuck front back
    → (tail : List Mark) → first_kind tail ≡ first_kind back → {χ : Formula (List ℕ)} {rest : List Mark} → Spells χ (front ++ tail) rest → ⊥
stuck_there (no_rule h) tail e s = let b = spells_begins s in omega arith
stuck_there (no_name h) tail e s = h (sym e ∙ at_negation s)
stuck_there (in_finally f) tail e s = stuck_there f tail e (at_finally s).2
stuck_there (in_globally f) tail e s = stuck_there f tail e (at_globally s).2
stuck_there (in_left f) tail e s = stuck_there f tail e (at_opening s).first
stuck_there (no_joint {left} {φ} {front} {back} g t a b) tail e s =
    let p = at_opening s in
    let q = ap first_kind (unique (extend t tail) p.first).1 in
    elim (joiner_kind p.operator p.behind) [ inl h ↦ a (sym e ∙ q ∙ h) | inr h ↦ b (sym e ∙ q ∙ h) ]
stuck_there (in_right o g t f) tail e {χ} {rest} s =
    let p = at_opening s in
    let q = right_same p.operator o tail t refl p.first in
    stuck_there f tail e (subst (λ l. Spells p.right l (closing ∷ rest)) q p.second)
stuck_there (no_closing o g h t u c) tail e {χ} {rest} s =
    let p = at_opening s in
    let q = right_same p.operator o tail t refl p.first in
    let r = (unique (extend u tail) (subst (λ l. Spells p.right l (closing ∷ rest)) q p.second)).1 in
    c (sym e ∙ ap first_kind r)

-- where it is too deep, a rule opens one level too deep
pub deep_there : {names : List (List ℕ)} {left : ℕ} {front back : List Mark} → Fails names left deep front back → Opens (suc left) front
deep_there (too_far h) = here
deep_there (in_finally f) = under_finally (deep_there f)
deep_there (in_globally f) = under_globally (deep_there f)
deep_there (in_left f) = on_the_left (deep_there f)
deep_there (in_right Operator.And g s f) = right_of_and s (deep_there f)
deep_there (in_right Operator.Or g s f) = right_of_or s (deep_there f)

-- the name that is not declared
pub unknown_there : {names : List (List ℕ)} {left : ℕ} {front back : List Mark} → Fails names left unknown front back
    → (w : List ℕ) × (rest : List Mark) × (back ≡ name w ∷ rest) × (has names w ≡ false)
unknown_there (no_atom {left} {w} {back} h) = (w, back, refl, h)
unknown_there (no_negated {left} {w} {back} h) = (w, back, refl, h)
unknown_there (in_finally f) = unknown_there f
unknown_there (in_globally f) = unknown_there f
unknown_there (in_left f) = unknown_there f
unknown_there (in_right o g s f) = unknown_there f

-- an undeclared name stands at a place that may open a rule, the others before it
abbrev pub reach : Reason → ℕ
reach stuck = 0
reach deep = 0
reach unknown = 1

-- what opens behind one mark of F, G or a bracket opens one level further in
one_further : {x : Mark} {front post : List Mark} {d : ℕ} (left : ℕ) → View x front post d → kind x < 6
    → ((e : ℕ) (pre : List Mark) → Opens e pre → front ≡ pre ++ post → e ≤ left) → d ≤ suc left
one_further left at_start l f = omega arith
one_further left (one_in {d} {pre} h o e) l f = let g = f d pre o e in omega arith
one_further left (right_in o h s w e) l f = let z : ⊥ = omega arith in absurd z

-- the same behind a bracket, on its left and on its right
bracket_further : {front post : List Mark} {d : ℕ} (left : ℕ) → View opening front post d
    → ((e : ℕ) (pre : List Mark) → Opens e pre → front ≡ pre ++ post → e ≤ left)
    → ((e : ℕ) (φ : Formula (List ℕ)) (ms ns : List Mark) (o : Operator) → Spells φ ms (joiner o ∷ ns) → Opens e ns → front ≡ ms ++ post → e ≤ left) → d ≤ suc left
bracket_further left at_start f g = omega arith
bracket_further left (one_in {d} {pre} h o e) f g = let r = f d pre o e in omega arith
bracket_further left (right_in {d} {φ} {ms} {ns} o h s w e) f g = let r = g d φ ms ns o s w e in omega arith

-- a rule that a good formula's spelling opens is within its depth
good_opens : (names : List (List ℕ)) {left : ℕ} {φ : Formula ℕ} {ms rest : List Mark} → Good names left φ → Spells (named names φ) ms rest
    → (post : List Mark) (e : ℕ) (pre : List Mark) → Opens e pre → ms ≡ pre ++ post → e ≤ left
good_opens names {left} {φ} {ms} {rest} g s post e pre o q =
    let h = opens_depth o post (subst (λ l. Spells (named names φ) l rest) q s) in let k = depth_named names φ in let l = g.shallow in omega arith

-- no mark stands before none
before_none : (pre post : List Mark) → ◌≡◌ {A = List Mark} [] (pre ++ post) → length post ≡ 0
before_none pre post e = omega (arith, simp length-append at (ap length e))

-- before any mark only the rule itself has opened
none_opens : {d : ℕ} {pre : List Mark} → Opens d pre → (post : List Mark) → ◌≡◌ {A = List Mark} [] (pre ++ post) → d ≡ 1
none_opens here post e = refl
none_opens (under_finally o) post e = let z : ◌≡◌ {A = ℕ} 0 1 = cc in omega arith
none_opens (under_globally o) post e = let z : ◌≡◌ {A = ℕ} 0 1 = cc in omega arith
none_opens (on_the_left o) post e = let z : ◌≡◌ {A = ℕ} 0 1 = cc in omega arith
none_opens (right_of_and s o) post e = let z : ◌≡◌ {A = ℕ} 0 1 = cc in omega arith
none_opens (right_of_or s o) post e = let z : ◌≡◌ {A = ℕ} 0 1 = cc in omega arith

-- behind `!` nothing opens
negation_opens : {front post : List Mark} {d : ℕ} → View negation front post d → d ≡ 1
negation_opens at_start = refl
negation_opens (one_in h o e) = omega arith
negation_opens (right_in o h s w e) = omega arith

-- before it no rule opens one level too deep
pub shallow_there : {names : List (List ℕ)} {left : ℕ} {k : Reason} {front back : List Mark} → Fails names left k front back
    → (post : List Mark) → 0 < reach k + length post → (d : ℕ) (pre : List Mark) → Opens d pre → front ≡ pre ++ post → d ≤ left
shallow_there (no_rule h) post l d pre o e = let q = before_none pre post e in let z : ⊥ = omega arith in absurd z
shallow_there (no_name h) post l d pre o e = let q = negation_opens (view o negation [] post e) in omega arith
shallow_there (too_far h) post l d pre o e = let q = before_none pre post e in let z : ⊥ = omega arith in absurd z
shallow_there (no_atom h) post l d pre o e = let q = none_opens o post e in omega arith
shallow_there (no_negated h) post l d pre o e = let q = negation_opens (view o negation [] post e) in omega arith
shallow_there (in_finally {left} f) post l d pre o e = one_further left (view o finally _ post e) (omega arith) (shallow_there f post l)
shallow_there (in_globally {left} f) post l d pre o e = one_further left (view o globally _ post e) (omega arith) (shallow_there f post l)
shallow_there (in_left {left} {k} {front} f) post l d pre o e =
    bracket_further left (view o opening front post e) (shallow_there f post l)
    (λ e' φ ms ns p s w q. absurd (not_ended f (subst (λ l. Spells φ l ((joiner p ∷ ns) ++ post)) (sym q) (extend s post))))
shallow_there (no_joint {left} {φ} {front} {back} g t a b) post l d pre o e =
    bracket_further left (view o opening front post e) (good_opens _ g t post)
    (λ e' χ ms ns p s w q.
    let r : ◌≡◌ {A = List Mark} [] (joiner p ∷ (ns ++ post)) = (unique t (subst (λ l. Spells χ l (joiner p ∷ (ns ++ post))) (sym q) (extend s post))).1 in
    let z : ◌≡◌ {A = ℕ} 0 1 = cc in omega arith)
shallow_there (in_right {left} {k} {φ} {ms} {front} p g t f) post l d pre o e =
    bracket_further left (view o opening ms post e) (good_opens _ g t post)
    (λ e' χ ms₂ ns p₂ s w q. shallow_there f post l e' ns w (right_same p p₂ post s q t))
shallow_there (no_closing {left} {φ} {ψ} {ms} {ns} p g h t u c) post l d pre o e =
    bracket_further left (view o opening ms post e) (good_opens _ g t post)
    (λ e' χ ms₂ ns₂ p₂ s w q. good_opens _ h u post e' ns₂ w (right_same p p₂ post s q t))

-- the mark, if a name, is declared
abbrev pub DeclaredMark : List (List ℕ) → Mark → Type 0
DeclaredMark names verum = Unit {0}
DeclaredMark names falsum = Unit {0}
DeclaredMark names (name w) = has names w ≡ true
DeclaredMark names negation = Unit {0}
DeclaredMark names finally = Unit {0}
DeclaredMark names globally = Unit {0}
DeclaredMark names opening = Unit {0}
DeclaredMark names conjunction = Unit {0}
DeclaredMark names disjunction = Unit {0}
DeclaredMark names closing = Unit {0}
DeclaredMark names foreign = Unit {0}
DeclaredMark names finish = Unit {0}

-- each of these marks, if a name, is declared
abbrev pub Declared : List (List ℕ) → List Mark → Type 0
Declared names [] = Unit {0}
Declared names (m ∷ ms) = DeclaredMark names m × Declared names ms

-- a joint is no name
joiner_declared : (names : List (List ℕ)) (o : Operator) → DeclaredMark names (joiner o)
joiner_declared names Operator.And = tt
joiner_declared names Operator.Or = tt

-- a good formula's spelling has declared names
pub good_declared : (names : List (List ℕ)) (φ : Formula ℕ) {ms rest : List Mark} → Spells (named names φ) ms rest → Below (length names) φ
    → Declared names rest → Declared names ms
good_declared names top spell_top b d = (tt, d)
good_declared names bottom spell_bottom b d = (tt, d)
good_declared names (atom a) spell_atom b d = (has_nth names a b, d)
good_declared names (negated a) spell_negated b d = (tt, (has_nth names a b, d))
good_declared names (both φ ψ) (spell_both s t) b d = (tt, good_declared names φ s b.0 (tt, good_declared names ψ t b.1 (tt, d)))
good_declared names (either φ ψ) (spell_either s t) b d = (tt, good_declared names φ s b.0 (tt, good_declared names ψ t b.1 (tt, d)))
good_declared names (eventually φ) (spell_eventually s) b d = (tt, good_declared names φ s b d)
good_declared names (always φ) (spell_always s) b d = (tt, good_declared names φ s b d)

-- before it each name is declared
pub declared_there : {names : List (List ℕ)} {left : ℕ} {k : Reason} {front back : List Mark} → Fails names left k front back → Declared names front
declared_there (no_rule h) = tt
declared_there (no_name h) = (tt, tt)
declared_there (too_far h) = tt
declared_there (no_atom h) = tt
declared_there (no_negated h) = (tt, tt)
declared_there (in_finally f) = (tt, declared_there f)
declared_there (in_globally f) = (tt, declared_there f)
declared_there (in_left f) = (tt, declared_there f)
declared_there {names} (no_joint {left} {φ} g s a b) = (tt, good_declared names φ s g.below tt)
declared_there {names} (in_right {left} {k} {φ} o g s f) = (tt, good_declared names φ s g.below (joiner_declared names o, declared_there f))
declared_there {names} (no_closing {left} {φ} {ψ} o g h s t c) =
    (tt, good_declared names φ s g.below (joiner_declared names o, good_declared names ψ t h.below tt))
