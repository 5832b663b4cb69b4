-- The marks of a text from a place on. Assumes nothing.
use Rattle.std.proofs.Common.{◌≡◌, ℕ, zero, suc, ◌+◌, ◌-◌, ◌<◌, ◌≤◌, true, false, eqb, List, [], ◌∷◌, length, get_or, take, drop, sym, refl, ap, ◌∙◌, ap₂, arith}
use Rattle.std.specs.List.{prefix_len}
use Rattle.std.proofs.lemmas.List.{drop_more, drop-drop, at_drop_all}
use Rattle.std.proofs.lemmas.Bool.{eq-eqb, ne_eqb, cond-true, cond-false}
use Rattle.names.specs.Names.{lower, wordly}
use Rattle.grammar.specs.Marks.{Placed, mark_of, word_of, marks_from}

-- bytes that belong to the mark before are passed over
pub pass_over : (p k : ℕ) (bs : List ℕ) → marks_from p k bs ≡ marks_from (p + k) 0 (drop k bs)
pass_over p zero [] = refl
pass_over p (suc k) [] = refl
pass_over p zero (b ∷ bs) = let e : p ≡ p + 0 = omega arith in ap (λ q. marks_from q 0 (b ∷ bs)) e
pass_over p (suc k) (b ∷ bs) = let e : p + 1 + k ≡ p + suc k = omega arith in pass_over (p + 1) k bs ∙ ap (λ q. marks_from q 0 (drop k bs)) e

-- a run that begins with the letter b at place p, before bs
abbrev pub run_at : ℕ → ℕ → List ℕ → List Placed
run_at p b bs = record { place = p; mark = word_of (b ∷ take (prefix_len wordly bs) bs) } ∷ marks_from (p + 1) (prefix_len wordly bs) bs

abbrev pub single_at : ℕ → ℕ → List ℕ → List Placed
single_at p b bs = record { place = p; mark = mark_of b } ∷ marks_from (p + 1) 0 bs

module _ (t : List ℕ) (i : ℕ) (inside : i < length t) where
  at_byte : marks_from i 0 (drop i t) ≡ marks_from i 0 (get_or t i 0 ∷ drop (i + 1) t)
  at_byte = ap (marks_from i 0) (drop_more t i 0 inside)

  pub scan_blank : get_or t i 0 ≡ 32 → marks_from i 0 (drop i t) ≡ marks_from (i + 1) 0 (drop (i + 1) t)
  scan_blank e = at_byte ∙ cond-true (eqb (get_or t i 0) 32) _ _ (eq-eqb (get_or t i 0) 32 e)

  module _ (no_blank : get_or t i 0 ≡ 32 → ⊥) where
    pub scan_mark : lower (get_or t i 0) ≡ false → marks_from i 0 (drop i t) ≡ single_at i (get_or t i 0) (drop (i + 1) t)
    scan_mark e = at_byte ∙ cond-false (eqb (get_or t i 0) 32) _ _ (ne_eqb (get_or t i 0) 32 no_blank) ∙ cond-false (lower (get_or t i 0)) _ _ e

    pub scan_run : lower (get_or t i 0) ≡ true → marks_from i 0 (drop i t) ≡ run_at i (get_or t i 0) (drop (i + 1) t)
    scan_run e = at_byte ∙ cond-false (eqb (get_or t i 0) 32) _ _ (ne_eqb (get_or t i 0) 32 no_blank) ∙ cond-true (lower (get_or t i 0)) _ _ e

    -- the same with the run as a part of the text, up to its end
    pub scan_word : lower (get_or t i 0) ≡ true → (end : ℕ) → end ≡ i + 1 + prefix_len wordly (drop (i + 1) t) → marks_from i 0 (drop i t) ≡ record { place = i; mark = word_of (take (end - i) (drop i t)) } ∷ marks_from end 0 (drop end t)
    scan_word e end at =
        let more = prefix_len wordly (drop (i + 1) t) in
        let long : end - i ≡ suc more = omega arith in
        let part : take (end - i) (drop i t) ≡ get_or t i 0 ∷ take more (drop (i + 1) t) = ap (λ l. take (end - i) l) (drop_more t i 0 inside) ∙ ap (λ n. take n (get_or t i 0 ∷ drop (i + 1) t)) long in
        let rest : marks_from (i + 1) more (drop (i + 1) t) ≡ marks_from end 0 (drop end t) =
        pass_over (i + 1) more (drop (i + 1) t) ∙ ap (marks_from (i + 1 + more) 0) (drop-drop more (i + 1) t) ∙ ap (λ q. marks_from q 0 (drop q t)) (sym at) in
        scan_run e ∙ ap₂ (λ w ms. record { place = i; mark = word_of w } ∷ ms) (sym part) rest

-- behind the last byte there are none
pub scan_end : (t : List ℕ) (i : ℕ) → length t ≤ i → marks_from i 0 (drop i t) ≡ []
scan_end t i h = at_drop_all (marks_from i 0) t i h
