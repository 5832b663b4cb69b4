-- What the next mark of a text is. Assumes nothing.
use Rattle.std.proofs.Common.{◌≡◌, ℕ, suc, ◌+◌, ◌-◌, ◌==◌, ◌||◌, ◌<◌, ◌≤◌, Bool, true, false, cond, List, [], ◌∷◌, length, get_or, take, drop, Ok, Result, sym, refl, ap, ◌∙◌, arith, add-zero, length-drop}
use Rattle.std.proofs.lemmas.Bool.{cond-true, cond-false, eq-eqb, false≢true}
use Rattle.std.proofs.lemmas.List.Sums.{prefix_len-drop_yes}
use Rattle.std.proofs.lemmas.List.{drop-drop, get_or-drop}
use Rattle.std.proofs.lemmas.List.Sums.{prefix_len_stops}
use Rattle.std.specs.List.{prefix_len}
use Rattle.std.specs.Str.{bytes_eq}
use Rattle.refusal.specs.Answers.{Said, and_then}
use Rattle.names.specs.Names.{lower, digit, wordly}
use Rattle.grammar.specs.Marks.{Mark, Placed, mark_of, word_of, is_kind, marks_from}
use Rattle.grammar.specs.Marks.Mark.{verum, falsum, name, foreign, finish}
use Rattle.grammar.specs.Descent.{Lexed, lex, unexpected}
use Rattle.grammar.proofs.Scan.{scan_mark, scan_word, scan_end}
use Rattle.lexer.specs.Tokens.{mark_at}

abbrev pub as_lexed : ℕ → List Placed → Mark → Result Lexed Said
as_lexed p ms m = Ok (record { mark = m; place = p; rest = ms })

either_way : (b : Bool) (p : ℕ) (ms : List Placed) (m : Mark) → and_then (cond b (unexpected p) (Ok m)) (as_lexed p ms) ≡ cond b (unexpected p) (as_lexed p ms m)
either_way true p ms m = refl
either_way false p ms m = refl

-- a run of letters and digits is no foreign mark
word_own : (b c : Bool) (w : List ℕ) → is_kind foreign (cond b verum (cond c falsum (name w))) ≡ false
word_own true c w = refl
word_own false true w = refl
word_own false false w = refl

-- how many blanks stand in front
abbrev blanks : List ℕ → ℕ
blanks bs = prefix_len (λ b. b == 32) bs

-- blanks in front are passed over
blanks_ahead : (p : ℕ) (bs : List ℕ) → marks_from (p + blanks bs) 0 (drop (blanks bs) bs) ≡ marks_from p 0 bs
blanks_ahead p [] = refl
blanks_ahead p (b ∷ bs) = go (blanks_ahead (p + 1) bs) (b == 32) refl
  where
    go : marks_from (p + 1 + blanks bs) 0 (drop (blanks bs) bs) ≡ marks_from (p + 1) 0 bs → (r : Bool) → (b == 32) ≡ r
        → marks_from (p + blanks (b ∷ bs)) 0 (drop (blanks (b ∷ bs)) (b ∷ bs)) ≡ marks_from p 0 (b ∷ bs)
    go more true e =
        let one : blanks (b ∷ bs) ≡ suc (blanks bs) = cond-true (b == 32) _ _ e ∙ omega arith in
        let on : p + suc (blanks bs) ≡ p + 1 + blanks bs = omega arith in
        ap (λ n. marks_from (p + n) 0 (drop n (b ∷ bs))) one ∙ ap (λ q. marks_from q 0 (drop (blanks bs) bs)) on
        ∙ more ∙ sym (cond-true (b == 32) _ _ e)
    go more false e =
        let none : blanks (b ∷ bs) ≡ 0 = cond-false (b == 32) _ _ e in
        ap (λ n. marks_from (p + n) 0 (drop n (b ∷ bs))) none ∙ ap (λ q. marks_from q 0 (b ∷ bs)) (add-zero p)

-- i is the place behind the blanks from `at` on in the text t
module _ (t : List ℕ) (at i stop : ℕ) (is : i ≡ at + blanks (drop at t)) where
  -- the marks behind blanks are the same
  blanks_passed : marks_from i 0 (drop i t) ≡ marks_from at 0 (drop at t)
  blanks_passed =
      ap (λ k. marks_from k 0 (drop k t)) is
      ∙ sym (ap (marks_from (at + blanks (drop at t)) 0) (drop-drop (blanks (drop at t)) at t))
      ∙ blanks_ahead at (drop at t)

  pub lex_end : length t ≤ i → as_lexed stop (marks_from i 0 (drop i t)) finish ≡ lex stop (marks_from at 0 (drop at t))
  lex_end h = ap (λ ms. as_lexed stop ms finish) (scan_end t i h) ∙ ap (lex stop) (sym (scan_end t i h) ∙ blanks_passed)

  module _ (b : ℕ) (inside : i < length t) (first : b ≡ get_or t i 0) where
    -- what stands there is no blank
    no_blank : get_or t i 0 ≡ 32 → ⊥
    no_blank e =
        let stops = prefix_len_stops (λ x. x == 32) (drop at t) 0 (omega (arith, length-drop at t)) in
        let here : get_or (drop at t) (blanks (drop at t)) 0 ≡ 32 = get_or-drop at t (blanks (drop at t)) 0 ∙ ap (λ k. get_or t k 0) (sym is) ∙ e in
        false≢true (sym stops ∙ eq-eqb _ 32 here)

    pub lex_mark : false ≡ lower b → and_then (mark_at b i) (as_lexed i (marks_from (i + 1) 0 (drop (i + 1) t))) ≡ lex stop (marks_from at 0 (drop at t))
    lex_mark e =
        let rest = marks_from (i + 1) 0 (drop (i + 1) t) in
        ap (λ x. and_then (mark_at x i) (as_lexed i rest)) first
        ∙ either_way (is_kind foreign (mark_of (get_or t i 0))) i rest (mark_of (get_or t i 0))
        ∙ ap (lex stop) (sym (scan_mark t i inside no_blank (sym (e ∙ ap lower first))) ∙ blanks_passed)

    pub lex_word : true ≡ lower b → (n : ℕ) → n ≡ prefix_len wordly (drop i t) → as_lexed i (marks_from (i + n) 0 (drop (i + n) t)) (word_of (take (i + n - i) (drop i t))) ≡ lex stop (marks_from at 0 (drop at t))
    lex_word e n run =
        let is_low : lower (get_or t i 0) ≡ true = sym (e ∙ ap lower first) in
        let on = prefix_len-drop_yes wordly t i 0 inside (ap (λ x. x || digit (get_or t i 0)) is_low) in
        let w = take (i + n - i) (drop i t) in
        let rest = marks_from (i + n) 0 (drop (i + n) t) in
        sym (ap (λ b. cond b (unexpected i) (as_lexed i rest (word_of w))) (word_own (bytes_eq w _) (bytes_eq w _) w))
        ∙ ap (lex stop) (sym (scan_word t i inside no_blank is_low (i + n) (omega arith)) ∙ blanks_passed)
