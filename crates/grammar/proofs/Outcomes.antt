-- Every text has its outcome.
use Rattle.std.proofs.Common.{◌≡◌, ℕ, zero, suc, ◌+◌, ◌<◌, ◌≤◌, cond, eqb, ltb, List, [], ◌∷◌, ◌++◌, map, length, get_or, take, Ok, codes, count_by, Result, sym, refl, ap, ◌∙◌, subst, append-nil, arith}
use Rattle.std.specs.List.{prefix_len}
use Rattle.std.specs.Str.{bytes_eq}
use Rattle.std.proofs.lemmas.List.{map-append}
use Rattle.std.proofs.lemmas.Bool.{ltb-true, ltb-false, lt-ltb, le-ltb, cond-true, cond-false, cond_both}
use Rattle.refusal.specs.declared.Layer.TheVariants.{Rule}
use Rattle.refusal.specs.Answers.{Said, refused, and_then}
use Rattle.ltl.specs.declared.Node.{Node}
use Rattle.ltl.specs.Formula.{Formula, is_temporal}
use Rattle.ltl.specs.Arena.{arena, temporals}
use Rattle.ltl.specs.Laws.{subformulae, Numbers}
use Rattle.names.specs.Names.{lower, wordly}
use Rattle.grammar.specs.Marks.{Mark, Placed, kind, marks, marks_from, mark_of, word_of}
use Rattle.grammar.specs.Marks.Mark.{verum, falsum, name, negation, finally, globally, opening, conjunction, disjunction, closing, foreign, finish}
use Rattle.grammar.specs.Grammar.{Spells}
use Rattle.grammar.specs.Writing.{named}
use Rattle.grammar.specs.Descent.{Held, Step, nothing_held, lex, seen, due, counted, reading}
use Rattle.grammar.specs.Laws.{marks_of, place_of, IsText, Outcome}
use Rattle.grammar.specs.Laws.Outcome.{too_long, unexpected, too_deep, undeclared, too_many, too_temporal, read}
use Rattle.grammar.proofs.Failing.{Reason, Good}
use Rattle.grammar.proofs.Failing.Reason.{stuck, deep, unknown}
use Rattle.grammar.proofs.Pooled.{number_held, Agree, numbers_agree}
use Rattle.grammar.proofs.Pooled.Agree.{same, past}
use Rattle.grammar.proofs.Sound.{marks_in, placed, place_at, code, Descended, sound}
use Rattle.grammar.proofs.Sound.Descended.{granted, failed}
use Rattle.grammar.proofs.Halting.{Halts, Stops, halts_from, fails_stops, trailing_stops}

-- what a formula of a text comes to
abbrev pub verdict : Formula ℕ → Result (List Node) Said
verdict φ = cond (ltb 32 (length (subformulae φ))) (refused 8 Rule 0) (cond (ltb 8 (count_by is_temporal (subformulae φ))) (refused 9 Rule 0) (Ok (arena φ)))

-- the outcomes in three cases
pub data Fate (names : List (List ℕ)) (text : List ℕ) : Result (List Node) Said → Type 0 where
  long : 1024 < length text → Fate names text (refused 4 Rule 0)
  halted : (i : ℕ) (k : Reason) → length text ≤ 1024 → Halts names (marks_of text) i k → Fate names text (refused (code k) Rule (place_of text i))
  done : (φ : Formula ℕ) → IsText names text φ → Fate names text (verdict φ)

-- none of these marks is the end
abbrev NoFinish : List Placed → Type 0
NoFinish [] = Unit {0}
NoFinish (m ∷ ms) = (kind m.mark < 11) × NoFinish ms

-- the mark is not the end
abbrev Early : Mark → Type 0
Early m = kind m < 11

-- a run of letters and digits is not the end
word_early : (w : List ℕ) → Early (word_of w)
word_early w = cond_both (bytes_eq w (codes "tt")) _ _ Early (λ _. omega arith)
    (λ _. cond_both (bytes_eq w (codes "ff")) _ _ Early (λ _. omega arith) (λ _. omega arith))

-- a byte is not the end
byte_early : (b : ℕ) → Early (mark_of b)
byte_early b =
    cond_both (eqb b 33) _ _ Early (λ _. omega arith)
    (λ _. cond_both (eqb b 70) _ _ Early (λ _. omega arith)
    (λ _. cond_both (eqb b 71) _ _ Early (λ _. omega arith)
    (λ _. cond_both (eqb b 40) _ _ Early (λ _. omega arith)
    (λ _. cond_both (eqb b 38) _ _ Early (λ _. omega arith)
    (λ _. cond_both (eqb b 124) _ _ Early (λ _. omega arith)
    (λ _. cond_both (eqb b 41) _ _ Early (λ _. omega arith) (λ _. omega arith)))))))

-- of a text's marks none is the end
marks_early : (p k : ℕ) (bs : List ℕ) → NoFinish (marks_from p k bs)
marks_early p k [] = tt
marks_early p (suc k) (b ∷ bs) = marks_early (p + 1) k bs
marks_early p zero (b ∷ bs) = cond_both (eqb b 32) _ _ NoFinish (λ _. marks_early (p + 1) 0 bs)
    (λ _. cond_both (lower b) _ _ NoFinish (λ _. (word_early (b ∷ take (prefix_len wordly bs) bs), marks_early (p + 1) (prefix_len wordly bs) bs))
    (λ _. (byte_early b, marks_early (p + 1) 0 bs)))

-- nor of those behind a front
rest_early : (front rest : List Placed) → NoFinish (front ++ rest) → NoFinish rest
rest_early [] rest n = n
rest_early (x ∷ front) rest n = rest_early front rest n.1

-- the place of the mark behind a front
place_behind : (stop : ℕ) (front back : List Placed) → get_or (map (λ (m : Placed). m.place) (front ++ back)) (length (marks_in front)) stop ≡ place_at stop back
place_behind stop [] [] = refl
place_behind stop [] (x ∷ back) = refl
place_behind stop (x ∷ front) back = place_behind stop front back

-- what is counted in the pool is what the numbering has
counted_pool : {r : Held × ℕ} {s : List Node × ℕ} → Agree r s → counted r.0 ≡ cond (ltb 32 (length s.0)) (refused 8 Rule 0)
    (cond (ltb 8 (temporals s.0)) (refused 9 Rule 0) (Ok s.0))
counted_pool (same ns k l) = sym (cond-false _ _ _ (le-ltb 32 (length ns) l))
counted_pool (past {r} {s} o l) = cond-true _ _ _ o ∙ sym (cond-true _ _ _ (lt-ltb 32 (length s.0) l))

-- equal counts have the same verdict
same_counts : (ns : List Node) {a b c d : ℕ} → a ≡ b → c ≡ d
    → ◌≡◌ {A = Result (List Node) Said} (cond (ltb 32 a) (refused 8 Rule 0) (cond (ltb 8 c) (refused 9 Rule 0) (Ok ns)))
    (cond (ltb 32 b) (refused 8 Rule 0) (cond (ltb 8 d) (refused 9 Rule 0) (Ok ns)))
same_counts ns e f = cc

-- a fate is an outcome
pub outcome_of : {names : List (List ℕ)} {text : List ℕ} {o : Result (List Node) Said} → Fate names text o → Outcome names text o
outcome_of (long h) = too_long h
outcome_of (halted i stuck l h) = unexpected i l h.bound h.why h.declared h.shallow
outcome_of (halted i deep l h) = too_deep i l h.why.0 h.why.1 h.why.2 h.declared h.shallow
outcome_of (halted i unknown l h) = undeclared i l h.why.0 h.why.1 h.why.2 h.declared h.why.3
outcome_of {names} {text} (done φ t) = cond_both (ltb 32 (length (subformulae φ))) _ _ (Outcome names text) (λ e. too_many φ t (ltb-true _ _ e))
    (λ e. cond_both (ltb 8 (count_by is_temporal (subformulae φ))) _ _ (Outcome names text) (λ f. too_temporal φ t (ltb-false _ _ e) (ltb-true _ _ f))
    (λ f. read φ t (ltb-false _ _ e) (ltb-false _ _ f)))

-- an outcome is a fate
pub fate_of : {names : List (List ℕ)} {text : List ℕ} {o : Result (List Node) Said} → Outcome names text o → Fate names text o
fate_of (too_long h) = long h
fate_of (unexpected i l b w d s) = halted i stuck l (record { bound = b; declared = d; shallow = s; why = w })
fate_of (too_deep i l b o c d s) = halted i deep l (record { bound = omega arith; declared = d; shallow = s; why = (b, o, c) })
fate_of (undeclared i l b u c d s) = halted i unknown l
    (record { bound = omega arith; declared = d; shallow = λ j h m o. s j (omega arith) m o; why = (b, u, c, s) })
fate_of {names} {text} (too_many φ t h) = subst (Fate names text) (cond-true _ _ _ (lt-ltb _ _ h)) (done φ t)
fate_of {names} {text} (too_temporal φ t h m) = subst (Fate names text) (cond-false _ _ _ (le-ltb _ _ h) ∙ cond-true _ _ _ (lt-ltb _ _ m)) (done φ t)
fate_of {names} {text} (read φ t h m) = subst (Fate names text) (cond-false _ _ _ (le-ltb _ _ h) ∙ cond-false _ _ _ (le-ltb _ _ m)) (done φ t)

module _ (names : List (List ℕ)) (text : List ℕ) (fits : length text ≤ 1024) where
  -- a stop behind a front of the text's marks
  stop_fate : (k : Reason) (front back : List Placed) → marks text ≡ front ++ back → Stops names k (marks_in front) (marks_in back)
      → Fate names text (refused (code k) Rule (place_at (length text) back))
  stop_fate k front back e s =
      let i : ℕ = length (marks_in front) in
      let m : marks_of text ≡ marks_in front ++ marks_in back = ap marks_in e ∙ map-append (λ (x : Placed). x.mark) front back in
      let p : place_of text i ≡ place_at (length text) back =
      ap (λ (l : List Placed). get_or (map (λ (x : Placed). x.place) l) i (length text)) e ∙ place_behind (length text) front back in
      subst (λ q. Fate names text (refused (code k) Rule q)) p (halted i k fits (subst (λ l. Halts names l i k) (sym m) (halts_from s)))

module _ (numbering : (φ : Formula ℕ) → Numbers φ) (temporal_count : (φ : Formula ℕ) → temporals (arena φ) ≡ count_by is_temporal (subformulae φ)) where
  -- the reader's counts are the formula's
  counted_verdict : (φ : Formula ℕ) → counted (number_held φ nothing_held).0 ≡ verdict φ
  counted_verdict φ = counted_pool (numbers_agree φ nothing_held [] (same [] 0 (omega arith))) ∙ same_counts (arena φ) (numbering φ).count (temporal_count φ)

  module _ (names : List (List ℕ)) (text : List ℕ) (fits : length text ≤ 1024) where
    -- a rule was read: the text ends there, or more marks stop it
    end_fate : (φ : Formula ℕ) (front rest : List Placed) → marks text ≡ front ++ rest → Good names 24 φ → Spells (named names φ) (marks_in front) []
        → Fate names text (and_then (and_then (and_then (lex (length text) rest) (due finish)) (λ _. Ok (number_held φ nothing_held).0)) counted)
    end_fate φ front [] e g s =
        let m : marks_in front ≡ marks_of text = ap marks_in (sym (e ∙ append-nil front)) in
        subst (Fate names text) (sym (counted_verdict φ)) (done φ
        (record { short = fits; spelled = subst (λ l. Spells (named names φ) l []) m s; known = g.below; shallow = g.shallow }))
    end_fate φ front (x ∷ rest) e g s = go x.mark x.place (rest_early front (x ∷ rest) (subst NoFinish e (marks_early 0 0 text))).0 e
      where
        go : (m : Mark) (p : ℕ) → kind m < 11 → marks text ≡ front ++ (placed p m ∷ rest)
            → Fate names text (and_then (and_then (and_then (seen m p rest) (due finish)) (λ _. Ok (number_held φ nothing_held).0)) counted)
        go verum p l q = stop_fate names text fits stuck front (placed p verum ∷ rest) q (trailing_stops g s l)
        go falsum p l q = stop_fate names text fits stuck front (placed p falsum ∷ rest) q (trailing_stops g s l)
        go (name w) p l q = stop_fate names text fits stuck front (placed p (name w) ∷ rest) q (trailing_stops g s l)
        go negation p l q = stop_fate names text fits stuck front (placed p negation ∷ rest) q (trailing_stops g s l)
        go finally p l q = stop_fate names text fits stuck front (placed p finally ∷ rest) q (trailing_stops g s l)
        go globally p l q = stop_fate names text fits stuck front (placed p globally ∷ rest) q (trailing_stops g s l)
        go opening p l q = stop_fate names text fits stuck front (placed p opening ∷ rest) q (trailing_stops g s l)
        go conjunction p l q = stop_fate names text fits stuck front (placed p conjunction ∷ rest) q (trailing_stops g s l)
        go disjunction p l q = stop_fate names text fits stuck front (placed p disjunction ∷ rest) q (trailing_stops g s l)
        go closing p l q = stop_fate names text fits stuck front (placed p closing ∷ rest) q (trailing_stops g s l)
        go foreign p l q = stop_fate names text fits stuck front (placed p foreign ∷ rest) q (trailing_stops g s l)
        go finish p l q = let z : ⊥ = omega arith in absurd z

    -- a descent over the text's marks is its fate
    short_fate : {r : Result Step Said} → Descended names (length text) 24 nothing_held (marks text) r
        → Fate names text (and_then (and_then r (λ s. and_then (and_then (lex (length text) s.rest) (due finish)) (λ _. Ok s.held))) counted)
    short_fate (granted φ front rest e g s) = end_fate φ front rest e g s
    short_fate (failed k front back e f) = stop_fate names text fits k front back e (fails_stops f)

  -- every text has its outcome
  pub outcome : (names : List (List ℕ)) (text : List ℕ) → Outcome names text (reading names text)
  outcome names text = outcome_of (cond_both (ltb 1024 (length text)) _ _ (Fate names text) (λ e. long (ltb-true _ _ e))
      (λ e. short_fate names text (ltb-false _ _ e) (sound 24 names (length text) nothing_held (marks text))))
