-- How many bytes marks take: a written formula is no longer than any text that spells it. Assumes nothing.
use Rattle.std.proofs.Common.{◌≡◌, ℕ, zero, suc, ◌+◌, ◌≤◌, min, Bool, true, false, cond, eqb, List, [], ◌∷◌, map, length, take, codes, sym, refl, ap, arith}
use Rattle.std.specs.List.{prefix_len}
use Rattle.std.specs.Str.{bytes_eq}
use Rattle.std.proofs.lemmas.List.{length-take, length-append}
use Rattle.std.proofs.lemmas.Bool.{cond_both}
use Rattle.std.proofs.lemmas.Slice.Eq.{bytes_eq-Decides}
use Rattle.ltl.specs.Formula.{Formula}
use Rattle.names.specs.Names.{lower, wordly}
use Rattle.grammar.specs.Marks.{Mark, Placed, word_of, mark_of}
use Rattle.grammar.specs.Marks.Mark.{verum, falsum, name, negation, finally, globally, opening, conjunction, disjunction, closing, foreign, finish}
use Rattle.grammar.specs.Grammar.{Spells}
use Rattle.grammar.specs.Grammar.Spells.{spell_top, spell_bottom, spell_atom, spell_negated, spell_eventually, spell_always, spell_both, spell_either}
use Rattle.grammar.specs.Writing.{written_on}
use Rattle.grammar.proofs.Written.{bare}

-- the bytes that a mark is written with
abbrev pub width : Mark → ℕ
width verum = 2
width falsum = 2
width (name w) = length w
width negation = 1
width finally = 1
width globally = 1
width opening = 1
width conjunction = 1
width disjunction = 1
width closing = 1
width foreign = 1
width finish = 0

abbrev pub widths : List Mark → ℕ
widths [] = 0
widths (m ∷ ms) = width m + widths ms

-- a run's mark is as wide as the run
pub run_width : (w : List ℕ) → width (word_of w) ≡ length w
run_width w = cond_both (bytes_eq w (codes "tt")) _ _ (λ m. width m ≡ length w)
    (λ e. sym (ap length ((bytes_eq-Decides w (codes "tt")).0 e)))
    (λ _. cond_both (bytes_eq w (codes "ff")) _ _ (λ m. width m ≡ length w)
    (λ e. sym (ap length ((bytes_eq-Decides w (codes "ff")).0 e)))
    (λ _. refl))

-- of two marks of one byte, either has one byte
one_of : (c : Bool) (x y : Mark) → width x ≡ 1 → width y ≡ 1 → width (cond c x y) ≡ 1
one_of true x y h k = h
one_of false x y h k = k

-- a byte's mark is one byte wide
pub byte_width : (b : ℕ) → width (mark_of b) ≡ 1
byte_width b =
    one_of (eqb b 33) _ _ refl (one_of (eqb b 70) _ _ refl (one_of (eqb b 71) _ _ refl (one_of (eqb b 40) _ _ refl
    (one_of (eqb b 38) _ _ refl (one_of (eqb b 124) _ _ refl (one_of (eqb b 41) _ _ refl refl))))))

-- marks take no more bytes than there are, besides those of the mark before
pub marks_width : (p k : ℕ) (bytes : List ℕ) → widths (bare p k bytes) + min k (length bytes) ≤ length bytes
marks_width p k [] = omega arith
marks_width p (suc k) (b ∷ bs) = let i = marks_width (p + 1) k bs in omega arith
marks_width p zero (b ∷ bs) =
    let i = marks_width (p + 1) 0 bs in
    let j = marks_width (p + 1) (prefix_len wordly bs) bs in
    let fits : List Placed → Type 0 = λ ms. widths (map (λ (m : Placed). m.mark) ms) + min 0 (length (b ∷ bs)) ≤ length (b ∷ bs) in
    cond_both (eqb b 32) _ _ fits
    (λ _. omega arith)
    (λ _. cond_both (lower b) _ _ fits
    (λ _. omega (arith, run_width (b ∷ take (prefix_len wordly bs) bs), length-take (prefix_len wordly bs) bs))
    (λ _. omega (arith, byte_width b)))

-- a formula is written with as many bytes as the marks of a spelling are wide
pub spelling_width : {φ : Formula (List ℕ)} {ms rest : List Mark} → Spells φ ms rest → (r : List ℕ)
    → length (written_on φ r) + widths rest ≡ widths ms + length r
spelling_width spell_top r = omega arith
spelling_width spell_bottom r = omega arith
spelling_width (spell_atom {w = w}) r = omega (arith, length-append w r)
spelling_width (spell_negated {w = w}) r = omega (arith, length-append w r)
spelling_width (spell_eventually s) r = let i = spelling_width s r in omega arith
spelling_width (spell_always s) r = let i = spelling_width s r in omega arith
spelling_width (spell_both {ψ = ψ} s t) r =
    let i = spelling_width s (38 ∷ written_on ψ (41 ∷ r)) in
    let j = spelling_width t (41 ∷ r) in
    omega arith
spelling_width (spell_either {ψ = ψ} s t) r =
    let i = spelling_width s (124 ∷ written_on ψ (41 ∷ r)) in
    let j = spelling_width t (41 ∷ r) in
    omega arith

-- a written formula is no longer than a text that spells it
pub written_short : (φ : Formula (List ℕ)) (text : List ℕ) → Spells φ (bare 0 0 text) [] → length (written_on φ []) ≤ length text
written_short φ text s =
    let i = spelling_width s [] in
    let j = marks_width 0 0 text in
    omega arith
