-- The marks of a written formula are a spelling of it. Assumes nothing.
use Rattle.std.proofs.Common.{◌≡◌, ℕ, zero, suc, ◌+◌, true, false, eqb, leb, List, [], ◌∷◌, ◌++◌, map, length, take, drop, sym, refl, ap, ◌∙◌, subst, arith}
use Rattle.std.specs.List.{prefix_len}
use Rattle.std.proofs.lemmas.List.{take_at, drop_at}
use Rattle.std.proofs.lemmas.Bool.{and_parts, cond-true, cond-false, ne_eqb, leb-true}
use Rattle.ltl.specs.Formula.{Formula}
use Rattle.ltl.specs.Formula.Formula.{top, bottom, atom, negated, both, either, eventually, always}
use Rattle.names.specs.Names.{lower, wordly, wordly_throughout, well_formed}
use Rattle.grammar.specs.Marks.{Mark, Placed, word_of, marks_from}
use Rattle.grammar.specs.Marks.Mark.{name}
use Rattle.grammar.specs.Grammar.{Spells}
use Rattle.grammar.specs.Grammar.Spells.{spell_top, spell_bottom, spell_atom, spell_negated, spell_eventually, spell_always, spell_both, spell_either}
use Rattle.grammar.specs.Writing.{written_on}
use Rattle.grammar.proofs.Words.{Worded, word_letters, word_plain, word_some}

-- the marks of bytes whose first stands at place p, without their places
abbrev pub bare : ℕ → ℕ → List ℕ → List Mark
bare p k bytes = map (λ (m : Placed). m.mark) (marks_from p k bytes)

-- bytes that belong to the mark before have no marks of their own
pub skips : (p k : ℕ) (bytes : List ℕ) → (p' : ℕ) × (bare p k bytes ≡ bare p' 0 (drop k bytes))
skips p zero bytes = (p, refl)
skips p (suc k) [] = (p, refl)
skips p (suc k) (b ∷ bytes) = skips (p + 1) k bytes

-- letters and digits before anything else are the whole run
pub run_length : (bs rest : List ℕ) → wordly_throughout bs ≡ true → prefix_len wordly rest ≡ 0 → prefix_len wordly (bs ++ rest) ≡ length bs
run_length [] rest h e = e
run_length (b ∷ bs) rest h e =
    let p = and_parts (wordly b) (wordly_throughout bs) h in
    let i = run_length bs rest p.1 e in
    cond-true (wordly b) _ _ p.0 ∙ omega arith

-- a letter and the run behind it are one mark
pub run_mark : (p b : ℕ) (bytes : List ℕ) → lower b ≡ true
    → bare p 0 (b ∷ bytes) ≡ word_of (b ∷ take (prefix_len wordly bytes) bytes) ∷ bare (p + 1) (prefix_len wordly bytes) bytes
run_mark p b bytes h =
    let l = leb-true 97 b (and_parts (leb 97 b) (leb b 122) h).0 in
    let n : eqb b 32 ≡ false = ne_eqb b 32 (λ e. omega arith) in
    ap (map (λ (m : Placed). m.mark)) (cond-false (eqb b 32) _ _ n ∙ cond-true (lower b) _ _ h)

-- a letter and more letters and digits, before anything else, are one mark
pub word_mark : (p b : ℕ) (bs rest : List ℕ) → lower b ≡ true → wordly_throughout bs ≡ true → prefix_len wordly rest ≡ 0
    → (p' : ℕ) × (bare p 0 (b ∷ (bs ++ rest)) ≡ word_of (b ∷ bs) ∷ bare p' 0 rest)
word_mark p b bs rest h k e =
    let r = run_length bs rest k e in
    let s = skips (p + 1) (length bs) (bs ++ rest) in (
      s.0,
      run_mark p b (bs ++ rest) h
          ∙ ap (λ n. word_of (b ∷ take n (bs ++ rest)) ∷ bare (p + 1) n (bs ++ rest)) r
          ∙ ap (λ w. word_of (b ∷ w) ∷ bare (p + 1) (length bs) (bs ++ rest)) (take_at bs rest (length bs) refl)
          ∙ ap (λ ms. word_of (b ∷ bs) ∷ ms) (s.1 ∙ ap (bare s.0 0) (drop_at bs rest (length bs) refl)),
    )

-- a well-formed name before anything else is its own mark
pub name_mark : (p : ℕ) (w rest : List ℕ) → well_formed w ≡ true → prefix_len wordly rest ≡ 0
    → (p' : ℕ) × (bare p 0 (w ++ rest) ≡ name w ∷ bare p' 0 rest)
name_mark p [] rest h e = absurd (word_some h)
name_mark p (b ∷ bs) rest h e =
    let l = word_letters (b ∷ bs) h in
    let m = word_mark p b bs rest l.0 (and_parts (wordly b) (wordly_throughout bs) l.1).1 e in
    (m.0, m.1 ∙ ap (λ x. x ∷ bare m.0 0 rest) (word_plain (b ∷ bs) h))

-- the marks of a written formula spell it, before anything that begins with no letter and no digit
pub written_spells : (φ : Formula (List ℕ)) (p : ℕ) (rest : List ℕ) → Worded φ → prefix_len wordly rest ≡ 0
    → (p' : ℕ) × Spells φ (bare p 0 (written_on φ rest)) (bare p' 0 rest)
written_spells top p rest h e =
    let m = word_mark p 116 (116 ∷ []) rest refl refl e in
    (m.0, subst (λ ms. Spells top ms (bare m.0 0 rest)) (sym m.1) spell_top)
written_spells bottom p rest h e =
    let m = word_mark p 102 (102 ∷ []) rest refl refl e in
    (m.0, subst (λ ms. Spells bottom ms (bare m.0 0 rest)) (sym m.1) spell_bottom)
written_spells (atom w) p rest h e =
    let m = name_mark p w rest h e in
    (m.0, subst (λ ms. Spells (atom w) ms (bare m.0 0 rest)) (sym m.1) spell_atom)
written_spells (negated w) p rest h e =
    let m = name_mark (p + 1) w rest h e in
    (m.0, subst (λ ms. Spells (negated w) (Mark.negation ∷ ms) (bare m.0 0 rest)) (sym m.1) spell_negated)
written_spells (both φ ψ) p rest h e =
    let a = written_spells φ (p + 1) (38 ∷ written_on ψ (41 ∷ rest)) h.0 refl in
    let b = written_spells ψ (a.0 + 1) (41 ∷ rest) h.1 refl in
    (b.0 + 1, spell_both a.1 b.1)
written_spells (either φ ψ) p rest h e =
    let a = written_spells φ (p + 1) (124 ∷ written_on ψ (41 ∷ rest)) h.0 refl in
    let b = written_spells ψ (a.0 + 1) (41 ∷ rest) h.1 refl in
    (b.0 + 1, spell_either a.1 b.1)
written_spells (eventually φ) p rest h e = let a = written_spells φ (p + 1) rest h e in (a.0, spell_eventually a.1)
written_spells (always φ) p rest h e = let a = written_spells φ (p + 1) rest h e in (a.0, spell_always a.1)
