-- Marks that some rule begins with.
use Rattle.std.proofs.Common.{◌≡◌, ℕ, ◌<◌, List, [], ◌∷◌, ◌++◌, sym, subst, append_assoc, arith}
use Rattle.ltl.specs.declared.Operator.{Operator}
use Rattle.ltl.specs.Formula.{Formula}
use Rattle.grammar.specs.Marks.{Mark, kind}
use Rattle.grammar.specs.Marks.Mark.{verum, falsum, name, negation, finally, globally, opening, conjunction, disjunction, closing, foreign, finish}
use Rattle.grammar.specs.Grammar.{Spells, CanGoOn}
use Rattle.grammar.specs.Grammar.Spells.{spell_top, spell_bottom, spell_atom, spell_negated, spell_eventually, spell_always, spell_both}
use Rattle.grammar.proofs.Spelling.{joiner, spell_pair, extend, unique}

-- some rule begins with the front and then t
pub record Completes (front t : List Mark) : Type 0 where
  pub more : List Mark
  pub rule : Formula (List ℕ)
  pub spelled : Spells rule (front ++ (t ++ more)) []

-- a front of what can go on can go on
pub can_shorter : (xs ys : List Mark) → CanGoOn (xs ++ ys) → CanGoOn xs
can_shorter xs ys c = (ys ++ c.0, (c.1.0, subst (λ l. Spells c.1.0 l []) (append_assoc xs ys c.0) c.1.1))

-- what goes on by t can go on to the end of t
pub completes_can : {front t : List Mark} → Completes front t → CanGoOn (front ++ t)
completes_can {front} {t} c = (c.more, (c.rule, subst (λ l. Spells c.rule l []) (sym (append_assoc front t c.more)) c.spelled))

-- what is spelled goes on
pub completed : {χ : Formula (List ℕ)} (front t more : List Mark) → Spells χ (front ++ (t ++ more)) [] → Completes front t
completed {χ} front t more s = record { more = more; rule = χ; spelled = s }

-- behind F marks go on as by themselves
pub via_finally : {ms t : List Mark} → Completes ms t → Completes (finally ∷ ms) t
via_finally {ms} {t} c = completed (finally ∷ ms) t c.more (spell_eventually c.spelled)

-- the same behind G
pub via_globally : {ms t : List Mark} → Completes ms t → Completes (globally ∷ ms) t
via_globally {ms} {t} c = completed (globally ∷ ms) t c.more (spell_always c.spelled)

-- marks behind a spelled front are marks behind what it goes on by
regroup : (ms t more tail : List Mark) → (ms ++ (t ++ more)) ++ tail ≡ ms ++ (t ++ (more ++ tail))
regroup ms t more tail = simp append_assoc

-- the same behind a bracket
pub via_left : {ms t : List Mark} → Completes ms t → Completes (opening ∷ ms) t
via_left {ms} {t} c =
    let tail : List Mark = conjunction ∷ verum ∷ closing ∷ [] in
    completed (opening ∷ ms) t (c.more ++ tail) (spell_both
    (subst (λ l. Spells c.rule l tail) (regroup ms t c.more tail) (extend c.spelled tail)) spell_top)

-- the same behind a bracket, a rule and a joint
pub via_right : {φ : Formula (List ℕ)} {ms ns t : List Mark} (o : Operator) → Spells φ ms (joiner o ∷ ns) → Completes ns t → Completes (opening ∷ ms) t
via_right {φ} {ms} {ns} {t} o s c =
    let tail : List Mark = closing ∷ [] in
    let more : List Mark = c.more ++ tail in
    completed (opening ∷ ms) t more (spell_pair o (extend s (t ++ more))
    (subst (λ l. Spells c.rule l tail) (regroup ns t c.more tail) (extend c.spelled tail)))

-- a joint can stand behind a rule in a bracket
pub joint_completes : {φ : Formula (List ℕ)} {ms : List Mark} → Spells φ ms [] → Completes (opening ∷ ms) (conjunction ∷ [])
joint_completes {φ} {ms} s = completed (opening ∷ ms) (conjunction ∷ []) (verum ∷ closing ∷ [])
    (spell_both (extend s (conjunction ∷ verum ∷ closing ∷ [])) spell_top)

-- the bracket's end can stand behind two joined rules
pub closing_completes : {φ ψ : Formula (List ℕ)} {ms ns : List Mark} (o : Operator) → Spells φ ms (joiner o ∷ ns) → Spells ψ ns []
    → Completes (opening ∷ ms) (closing ∷ [])
closing_completes {φ} {ψ} {ms} o s t = completed (opening ∷ ms) (closing ∷ []) [] (spell_pair o (extend s (closing ∷ [])) (extend t (closing ∷ [])))

-- each of the first seven kinds begins a rule
pub begins_completes : (m : Mark) → kind m < 7 → Completes [] (m ∷ [])
begins_completes verum h = completed [] (verum ∷ []) [] spell_top
begins_completes falsum h = completed [] (falsum ∷ []) [] spell_bottom
begins_completes (name w) h = completed [] (name w ∷ []) [] spell_atom
begins_completes negation h = completed [] (negation ∷ []) (name [] ∷ []) spell_negated
begins_completes finally h = completed [] (finally ∷ []) (verum ∷ []) (spell_eventually spell_top)
begins_completes globally h = completed [] (globally ∷ []) (verum ∷ []) (spell_always spell_top)
begins_completes opening h = completed [] (opening ∷ []) (verum ∷ conjunction ∷ verum ∷ closing ∷ []) (spell_both spell_top spell_top)
begins_completes conjunction h = let z : ⊥ = omega arith in absurd z
begins_completes disjunction h = let z : ⊥ = omega arith in absurd z
begins_completes closing h = let z : ⊥ = omega arith in absurd z
begins_completes foreign h = let z : ⊥ = omega arith in absurd z
begins_completes finish h = let z : ⊥ = omega arith in absurd z

-- no rule ends within marks that go on by at least one
pub not_within : {φ : Formula (List ℕ)} {front rest : List Mark} (m : Mark) → Completes front (m ∷ []) → Spells φ front rest → ⊥
not_within {φ} {front} {rest} m c s = nothing rest (unique (extend s (m ∷ c.more)) c.spelled).1
  where
    nothing : (r : List Mark) → r ++ (m ∷ c.more) ≡ [] → ⊥
    nothing [] e = let z : ◌≡◌ {A = ℕ} 0 1 = cc in omega arith
    nothing (x ∷ xs) e = let z : ◌≡◌ {A = ℕ} 0 1 = cc in omega arith
