-- What the reader's descent comes to.
use Rattle.std.proofs.Common.{◌≡◌, ℕ, zero, suc, ◌<◌, false, List, [], ◌∷◌, ◌++◌, map, length, get_or, Ok, Result, sym, refl, ap, ◌∙◌, subst, append_assoc, arith}
use Rattle.std.specs.Str.{bytes_eq}
use Rattle.std.proofs.lemmas.List.{map-append}
use Rattle.std.proofs.lemmas.Bool.{ltb-true, cond_both}
use Rattle.refusal.specs.declared.Layer.TheVariants.{Rule}
use Rattle.refusal.specs.Answers.{Said, refused, and_then}
use Rattle.ltl.specs.declared.Node.TheVariants.{Atom, NotAtom, Eventually, Always}
use Rattle.ltl.specs.declared.Operator.{Operator}
use Rattle.ltl.specs.Lists.{position}
use Rattle.ltl.specs.Arena.{join_node}
use Rattle.ltl.specs.Formula.{Formula}
use Rattle.ltl.specs.Formula.Formula.{top, bottom, atom, negated, both, either, eventually, always}
use Rattle.names.specs.Names.{has}
use Rattle.grammar.specs.Marks.{Mark, Placed}
use Rattle.grammar.specs.Marks.Mark.{verum, falsum, name, negation, finally, globally, opening, conjunction, disjunction, closing, foreign, finish}
use Rattle.grammar.specs.Grammar.{Spells}
use Rattle.grammar.specs.Grammar.Spells.{spell_top, spell_bottom, spell_atom, spell_negated, spell_eventually, spell_always}
use Rattle.grammar.specs.Writing.{named}
use Rattle.grammar.specs.Descent.{Held, Step, lex, seen, made, known, joint, due, too_deep_at, negated_name, rule_from, descend}
use Rattle.grammar.proofs.Spelling.{joiner, pair_of, first_kind, extend, spell_pair}
use Rattle.grammar.proofs.Naming.{found}
use Rattle.grammar.proofs.Failing.{Reason, Good, Fails}
use Rattle.grammar.proofs.Failing.Reason.{stuck, deep, unknown}
use Rattle.grammar.proofs.Failing.Fails.{no_rule, no_name, too_far, no_atom, no_negated, in_finally, in_globally, in_left, no_joint, in_right, no_closing}
use Rattle.grammar.proofs.Pooled.{number_held}

-- marks without their places
abbrev pub marks_in : List Placed → List Mark
marks_in ms = map (λ (m : Placed). m.mark) ms

-- a mark at a place
abbrev pub placed : ℕ → Mark → Placed
placed p m = record { place = p; mark = m }

-- the place of the first of these marks, or the text's end
abbrev pub place_at : ℕ → List Placed → ℕ
place_at stop [] = stop
place_at stop (x ∷ xs) = x.place

-- the refusal's number
abbrev pub code : Reason → ℕ
code stuck = 5
code deep = 7
code unknown = 6

-- a descent with `left` levels to go: a good formula spelled by a front and numbered, or a failure behind a front
pub data Descended (names : List (List ℕ)) (stop left : ℕ) (h : Held) (ms : List Placed) : Result Step Said → Type 0 where
  granted : (φ : Formula ℕ) (front rest : List Placed) → ms ≡ front ++ rest → Good names left φ → Spells (named names φ) (marks_in front) []
      → Descended names stop left h ms (Ok (record { number = (number_held φ h).1; held = (number_held φ h).0; rest = rest }))
  failed : (k : Reason) (front back : List Placed) → ms ≡ front ++ back → Fails names left k (marks_in front) (marks_in back)
      → Descended names stop left h ms (refused (code k) Rule (place_at stop back))

-- what is known of a name
data Known (names : List (List ℕ)) (w : List ℕ) (p : ℕ) : Result ℕ Said → Type 0 where
  known_at : (k : ℕ) → k < length names → get_or names k [] ≡ w → Known names w p (Ok k)
  not_known : has names w ≡ false → Known names w p (refused 6 Rule p)

-- a name is found among the declared, or is not declared
is_known : (names : List (List ℕ)) (w : List ℕ) (p : ℕ) → Known names w p (known names w p)
is_known names w p = cond_both (has names w) _ _ (Known names w p) (λ e. let l = ltb-true (position bytes_eq w names) (length names) e in
    known_at _ l (found names w l)) (λ e. not_known e)

-- what stands where a joint is due
data Jointed (stop : ℕ) : List Placed → Result (Operator × List Placed) Said → Type 0 where
  joint_at : (o : Operator) (q : ℕ) (rest : List Placed) → Jointed stop (placed q (joiner o) ∷ rest) (Ok (o, rest))
  joint_not : {rest : List Placed} → (first_kind (marks_in rest) ≡ 7 → ⊥) → (first_kind (marks_in rest) ≡ 8 → ⊥) → Jointed stop rest (refused 5 Rule (place_at stop rest))

-- a joint stands first, or none does
jointed : (stop : ℕ) (rest : List Placed) → Jointed stop rest (and_then (lex stop rest) joint)
jointed stop [] = joint_not (omega arith) (omega arith)
jointed stop (x ∷ rest) = go x.mark x.place
  where
    go : (m : Mark) (q : ℕ) → Jointed stop (placed q m ∷ rest) (and_then (seen m q rest) joint)
    go verum q = joint_not (omega arith) (omega arith)
    go falsum q = joint_not (omega arith) (omega arith)
    go (name w) q = joint_not (omega arith) (omega arith)
    go negation q = joint_not (omega arith) (omega arith)
    go finally q = joint_not (omega arith) (omega arith)
    go globally q = joint_not (omega arith) (omega arith)
    go opening q = joint_not (omega arith) (omega arith)
    go conjunction q = joint_at Operator.And q rest
    go disjunction q = joint_at Operator.Or q rest
    go closing q = joint_not (omega arith) (omega arith)
    go foreign q = joint_not (omega arith) (omega arith)
    go finish q = joint_not (omega arith) (omega arith)

-- what stands where a bracket's end is due
data Closed (stop : ℕ) : List Placed → Result (List Placed) Said → Type 0 where
  closed_at : (q : ℕ) (rest : List Placed) → Closed stop (placed q closing ∷ rest) (Ok rest)
  closed_not : {rest : List Placed} → (first_kind (marks_in rest) ≡ 9 → ⊥) → Closed stop rest (refused 5 Rule (place_at stop rest))

-- a bracket's end stands first, or none does
is_closed : (stop : ℕ) (rest : List Placed) → Closed stop rest (and_then (lex stop rest) (due closing))
is_closed stop [] = closed_not (omega arith)
is_closed stop (x ∷ rest) = go x.mark x.place
  where
    go : (m : Mark) (q : ℕ) → Closed stop (placed q m ∷ rest) (and_then (seen m q rest) (due closing))
    go verum q = closed_not (omega arith)
    go falsum q = closed_not (omega arith)
    go (name w) q = closed_not (omega arith)
    go negation q = closed_not (omega arith)
    go finally q = closed_not (omega arith)
    go globally q = closed_not (omega arith)
    go opening q = closed_not (omega arith)
    go conjunction q = closed_not (omega arith)
    go disjunction q = closed_not (omega arith)
    go closing q = closed_at q rest
    go foreign q = closed_not (omega arith)
    go finish q = closed_not (omega arith)

-- with no level left
sound_zero : (names : List (List ℕ)) (stop : ℕ) (h : Held) (ms : List Placed) → Descended names stop zero h ms (and_then (lex stop ms) too_deep_at)
sound_zero names stop h [] = failed stuck [] [] refl (no_rule (omega arith))
sound_zero names stop h (x ∷ ms) = go x.mark x.place
  where
    go : (m : Mark) (q : ℕ) → Descended names stop zero h (placed q m ∷ ms) (and_then (seen m q ms) too_deep_at)
    go verum q = failed deep [] (placed q verum ∷ ms) refl (too_far (omega arith))
    go falsum q = failed deep [] (placed q falsum ∷ ms) refl (too_far (omega arith))
    go (name w) q = failed deep [] (placed q (name w) ∷ ms) refl (too_far (omega arith))
    go negation q = failed deep [] (placed q negation ∷ ms) refl (too_far (omega arith))
    go finally q = failed deep [] (placed q finally ∷ ms) refl (too_far (omega arith))
    go globally q = failed deep [] (placed q globally ∷ ms) refl (too_far (omega arith))
    go opening q = failed deep [] (placed q opening ∷ ms) refl (too_far (omega arith))
    go conjunction q = failed stuck [] (placed q conjunction ∷ ms) refl (no_rule (omega arith))
    go disjunction q = failed stuck [] (placed q disjunction ∷ ms) refl (no_rule (omega arith))
    go closing q = failed stuck [] (placed q closing ∷ ms) refl (no_rule (omega arith))
    go foreign q = failed stuck [] (placed q foreign ∷ ms) refl (no_rule (omega arith))
    go finish q = failed stuck [] (placed q finish ∷ ms) refl (no_rule (omega arith))

module _ (names : List (List ℕ)) (stop left : ℕ) (h : Held) where
  -- a name
  atom_sound : (w : List ℕ) (p : ℕ) (ms : List Placed) {r : Result ℕ Said} → Known names w p r
      → Descended names stop (suc left) h (placed p (name w) ∷ ms) (and_then r (λ k. made (Atom k) h ms))
  atom_sound w p ms (known_at k l e) = granted (atom k) (placed p (name w) ∷ []) ms refl (record { below = l; shallow = omega arith })
      (subst (λ v. Spells (atom v) (name w ∷ []) []) (sym e) spell_atom)
  atom_sound w p ms (not_known e) = failed unknown [] (placed p (name w) ∷ ms) refl (no_atom e)

  -- a name behind `!`
  negated_sound : (w : List ℕ) (p q : ℕ) (ms : List Placed) {r : Result ℕ Said} → Known names w q r
      → Descended names stop (suc left) h (placed p negation ∷ placed q (name w) ∷ ms) (and_then r (λ k. made (NotAtom k) h ms))
  negated_sound w p q ms (known_at k l e) = granted (negated k) (placed p negation ∷ placed q (name w) ∷ []) ms refl
      (record { below = l; shallow = omega arith }) (subst (λ v. Spells (negated v) (negation ∷ name w ∷ []) []) (sym e) spell_negated)
  negated_sound w p q ms (not_known e) = failed unknown (placed p negation ∷ []) (placed q (name w) ∷ ms) refl (no_negated e)

  -- what stands behind `!`
  negation_sound : (p : ℕ) (ms : List Placed) → Descended names stop (suc left) h (placed p negation ∷ ms)
      (and_then (lex stop ms) (λ y. negated_name names h y y.mark))
  negation_sound p [] = failed stuck (placed p negation ∷ []) [] refl (no_name (omega arith))
  negation_sound p (x ∷ ms) = go x.mark x.place
    where
      go : (m : Mark) (q : ℕ) → Descended names stop (suc left) h (placed p negation ∷ placed q m ∷ ms)
          (and_then (seen m q ms) (λ y. negated_name names h y y.mark))
      go verum q = failed stuck (placed p negation ∷ []) (placed q verum ∷ ms) refl (no_name (omega arith))
      go falsum q = failed stuck (placed p negation ∷ []) (placed q falsum ∷ ms) refl (no_name (omega arith))
      go (name w) q = negated_sound w p q ms (is_known names w q)
      go negation q = failed stuck (placed p negation ∷ []) (placed q negation ∷ ms) refl (no_name (omega arith))
      go finally q = failed stuck (placed p negation ∷ []) (placed q finally ∷ ms) refl (no_name (omega arith))
      go globally q = failed stuck (placed p negation ∷ []) (placed q globally ∷ ms) refl (no_name (omega arith))
      go opening q = failed stuck (placed p negation ∷ []) (placed q opening ∷ ms) refl (no_name (omega arith))
      go conjunction q = failed stuck (placed p negation ∷ []) (placed q conjunction ∷ ms) refl (no_name (omega arith))
      go disjunction q = failed stuck (placed p negation ∷ []) (placed q disjunction ∷ ms) refl (no_name (omega arith))
      go closing q = failed stuck (placed p negation ∷ []) (placed q closing ∷ ms) refl (no_name (omega arith))
      go foreign q = failed stuck (placed p negation ∷ []) (placed q foreign ∷ ms) refl (no_name (omega arith))
      go finish q = failed stuck (placed p negation ∷ []) (placed q finish ∷ ms) refl (no_name (omega arith))

  -- a rule behind F
  finally_sound : (p : ℕ) (ms : List Placed) {r : Result Step Said} → Descended names stop left h ms r
      → Descended names stop (suc left) h (placed p finally ∷ ms) (and_then r (λ a. made (Eventually a.number) a.held a.rest))
  finally_sound p ms (granted φ front rest e g s) =
      granted (eventually φ) (placed p finally ∷ front) rest (ap (λ (l : List Placed). placed p finally ∷ l) e)
      (record { below = g.below; shallow = omega (arith, g.shallow) }) (spell_eventually s)
  finally_sound p ms (failed k front back e f) = failed k (placed p finally ∷ front) back (ap (λ (l : List Placed). placed p finally ∷ l) e) (in_finally f)

  -- a rule behind G
  globally_sound : (p : ℕ) (ms : List Placed) {r : Result Step Said} → Descended names stop left h ms r
      → Descended names stop (suc left) h (placed p globally ∷ ms) (and_then r (λ a. made (Always a.number) a.held a.rest))
  globally_sound p ms (granted φ front rest e g s) =
      granted (always φ) (placed p globally ∷ front) rest (ap (λ (l : List Placed). placed p globally ∷ l) e)
      (record { below = g.below; shallow = omega (arith, g.shallow) }) (spell_always s)
  globally_sound p ms (failed k front back e f) = failed k (placed p globally ∷ front) back (ap (λ (l : List Placed). placed p globally ∷ l) e) (in_globally f)

  -- two rules in brackets are granted as a pair
  pair_granted : (o : Operator) (φ ψ : Formula ℕ) (p : ℕ) (ms front rest : List Placed) → ms ≡ front ++ rest → Good names left φ → Good names left ψ
      → Spells (pair_of o (named names φ) (named names ψ)) (opening ∷ marks_in front) []
      → Descended names stop (suc left) h (placed p opening ∷ ms) (made (join_node o (number_held φ h).1 (number_held ψ (number_held φ h).0).1)
      (number_held ψ (number_held φ h).0).0 rest)
  pair_granted Operator.And φ ψ p ms front rest e g g' s =
      granted (both φ ψ) (placed p opening ∷ front) rest (ap (λ (l : List Placed). placed p opening ∷ l) e)
      (record { below = (g.below, g'.below); shallow = omega (arith, g.shallow, g'.shallow) }) s
  pair_granted Operator.Or φ ψ p ms front rest e g g' s =
      granted (either φ ψ) (placed p opening ∷ front) rest (ap (λ (l : List Placed). placed p opening ∷ l) e)
      (record { below = (g.below, g'.below); shallow = omega (arith, g.shallow, g'.shallow) }) s

  -- a rule, then a mark, then more
  first_spelled : {χ : Formula (List ℕ)} (m : Mark) (q : ℕ) (front front₂ : List Placed) → Spells χ (marks_in front) []
      → Spells χ (marks_in (front ++ (placed q m ∷ front₂))) (m ∷ marks_in front₂)
  first_spelled {χ} m q front front₂ s = subst (λ l. Spells χ l (m ∷ marks_in front₂)) (sym (map-append (λ (x : Placed). x.mark) front (placed q m ∷ front₂)))
      (extend s (m ∷ marks_in front₂))

  -- behind two joined rules: the bracket's end or not
  closing_sound : (o : Operator) (φ ψ : Formula ℕ) (p q : ℕ) (ms front front₂ rest : List Placed) → ms ≡ front ++ (placed q (joiner o) ∷ (front₂ ++ rest))
      → Good names left φ → Good names left ψ
      → Spells (named names φ) (marks_in front) [] → Spells (named names ψ) (marks_in front₂) [] → {r : Result (List Placed) Said} → Closed stop rest r
      → Descended names stop (suc left) h (placed p opening ∷ ms) (and_then r
      (λ ms'. made (join_node o (number_held φ h).1 (number_held ψ (number_held φ h).0).1) (number_held ψ (number_held φ h).0).0 ms'))
  closing_sound o φ ψ p q ms front front₂ rest e g g' s t (closed_at z rest') =
      let front₃ : List Placed = front₂ ++ (placed z closing ∷ []) in
      let a : front ++ (placed q (joiner o) ∷ (front₂ ++ (placed z closing ∷ rest'))) ≡ (front ++ (placed q (joiner o) ∷ front₃)) ++ rest' = simp append_assoc in
      pair_granted o φ ψ p ms (front ++ (placed q (joiner o) ∷ front₃)) rest' (e ∙ a) g g'
      (spell_pair o (first_spelled (joiner o) q front front₃ s) (first_spelled closing z front₂ [] t))
  closing_sound o φ ψ p q ms front front₂ rest e g g' s t (closed_not c) =
      let a : front ++ (placed q (joiner o) ∷ (front₂ ++ rest)) ≡ (front ++ (placed q (joiner o) ∷ front₂)) ++ rest = simp append_assoc in
      failed stuck (placed p opening ∷ (front ++ (placed q (joiner o) ∷ front₂))) rest (ap (λ (l : List Placed). placed p opening ∷ l) (e ∙ a))
      (no_closing o g g' (first_spelled (joiner o) q front front₂ s) t c)

  -- behind a rule and a joint: a rule or not
  right_sound : (o : Operator) (φ : Formula ℕ) (p q : ℕ) (ms front rest : List Placed) → ms ≡ front ++ (placed q (joiner o) ∷ rest) → Good names left φ
      → Spells (named names φ) (marks_in front) []
      → {r : Result Step Said} → Descended names stop left (number_held φ h).0 rest r
      → Descended names stop (suc left) h (placed p opening ∷ ms) (and_then r
      (λ b. and_then (and_then (lex stop b.rest) (due closing)) (λ ms'. made (join_node o (number_held φ h).1 b.number) b.held ms')))
  right_sound o φ p q ms front rest e g s (granted ψ front₂ rest₂ e₂ g' t) =
      closing_sound o φ ψ p q ms front front₂ rest₂ (e ∙ ap (λ (l : List Placed). front ++ (placed q (joiner o) ∷ l)) e₂) g g' s t (is_closed stop rest₂)
  right_sound o φ p q ms front rest e g s (failed k front₂ back e₂ f) =
      let a : front ++ (placed q (joiner o) ∷ (front₂ ++ back)) ≡ (front ++ (placed q (joiner o) ∷ front₂)) ++ back = simp append_assoc in
      failed k (placed p opening ∷ (front ++ (placed q (joiner o) ∷ front₂))) back
      (ap (λ (l : List Placed). placed p opening ∷ l) (e ∙ (ap (λ (l : List Placed). front ++ (placed q (joiner o) ∷ l)) e₂ ∙ a)))
      (in_right o g (first_spelled (joiner o) q front front₂ s) f)

  module _ (inner : Held → List Placed → Result Step Said) (ih : (h' : Held) (ms : List Placed) → Descended names stop left h' ms (inner h' ms)) where
    joint_sound : (φ : Formula ℕ) (p : ℕ) (ms front rest : List Placed) → ms ≡ front ++ rest → Good names left φ → Spells (named names φ) (marks_in front) []
        → {r : Result (Operator × List Placed) Said} → Jointed stop rest r
        → Descended names stop (suc left) h (placed p opening ∷ ms) (and_then r
        (λ o. and_then (inner (number_held φ h).0 o.1) (λ b. and_then (and_then (lex stop b.rest) (due closing)) (λ ms'.
        made (join_node o.0 (number_held φ h).1 b.number) b.held ms'))))
    joint_sound φ p ms front rest e g s (joint_at o q rest') = right_sound o φ p q ms front rest' e g s (ih (number_held φ h).0 rest')
    joint_sound φ p ms front rest e g s (joint_not a b) = failed stuck (placed p opening ∷ front) rest (ap (λ (l : List Placed). placed p opening ∷ l) e)
        (no_joint g s a b)

    -- behind a bracket: a rule or not
    bracket_sound : (p : ℕ) (ms : List Placed) {r : Result Step Said} → Descended names stop left h ms r
        → Descended names stop (suc left) h (placed p opening ∷ ms) (and_then r
        (λ a. and_then (and_then (lex stop a.rest) joint) (λ o. and_then (inner a.held o.1)
        (λ b. and_then (and_then (lex stop b.rest) (due closing)) (λ ms'.
        made (join_node o.0 a.number b.number) b.held ms')))))
    bracket_sound p ms (granted φ front rest e g s) = joint_sound φ p ms front rest e g s (jointed stop rest)
    bracket_sound p ms (failed k front back e f) = failed k (placed p opening ∷ front) back (ap (λ (l : List Placed). placed p opening ∷ l) e) (in_left f)

    -- a rule from its first mark on
    rule_sound : (m : Mark) (p : ℕ) (ms : List Placed) → Descended names stop (suc left) h (placed p m ∷ ms)
        (and_then (seen m p ms) (λ x. rule_from inner names stop h x x.mark))
    rule_sound verum p ms = granted top (placed p verum ∷ []) ms refl (record { below = tt; shallow = omega arith }) spell_top
    rule_sound falsum p ms = granted bottom (placed p falsum ∷ []) ms refl (record { below = tt; shallow = omega arith }) spell_bottom
    rule_sound (name w) p ms = atom_sound w p ms (is_known names w p)
    rule_sound negation p ms = negation_sound p ms
    rule_sound finally p ms = finally_sound p ms (ih h ms)
    rule_sound globally p ms = globally_sound p ms (ih h ms)
    rule_sound opening p ms = bracket_sound p ms (ih h ms)
    rule_sound conjunction p ms = failed stuck [] (placed p conjunction ∷ ms) refl (no_rule (omega arith))
    rule_sound disjunction p ms = failed stuck [] (placed p disjunction ∷ ms) refl (no_rule (omega arith))
    rule_sound closing p ms = failed stuck [] (placed p closing ∷ ms) refl (no_rule (omega arith))
    rule_sound foreign p ms = failed stuck [] (placed p foreign ∷ ms) refl (no_rule (omega arith))
    rule_sound finish p ms = failed stuck [] (placed p finish ∷ ms) refl (no_rule (omega arith))

    -- with a level to go
    suc_sound : (ms : List Placed) → Descended names stop (suc left) h ms (and_then (lex stop ms) (λ x. rule_from inner names stop h x x.mark))
    suc_sound [] = failed stuck [] [] refl (no_rule (omega arith))
    suc_sound (x ∷ ms) = rule_sound x.mark x.place ms

-- the reader with `left` levels to go
pub sound : (left : ℕ) (names : List (List ℕ)) (stop : ℕ) (h : Held) (ms : List Placed) → Descended names stop left h ms (descend left names stop h ms)
unfolding descend
sound zero names stop h ms = sound_zero names stop h ms
sound (suc left) names stop h ms = suc_sound names stop left h (descend left names stop) (λ h' ms'. sound left names stop h' ms') ms
