-- The places where subformulae end come in the order of their last marks.
use Rattle.std.proofs.Common.{◌≡◌, ℕ, zero, suc, ◌+◌, ◌<◌, ◌≤◌, ◌⊎◌, List, [], ◌∷◌, ◌++◌, length, get_or, drop, sym, refl, ap, ◌∙◌, subst, arith}
use mathlib.Core.Logic.◌⊎◌.{inl, inr}
use Rattle.std.proofs.lemmas.List.{append_assoc, drop-drop}
use Rattle.std.proofs.lemmas.Bool.{cases_lt}
use Rattle.ltl.specs.Formula.{Formula, ends}
use Rattle.ltl.specs.Formula.Formula.{bottom}
use Rattle.grammar.specs.Marks.{Mark}
use Rattle.grammar.specs.Marks.Mark.{opening, closing}
use Rattle.grammar.specs.Grammar.{Spells}
use Rattle.grammar.specs.Grammar.Spells.{spell_top, spell_bottom, spell_atom, spell_negated, spell_eventually, spell_always, spell_both, spell_either}
use Rattle.grammar.specs.Laws.{EndingOrder}

-- a stretch of marks, from its first up to its last
record Span : Type 0 where
  first : ℕ
  last : ℕ

-- the one ends first, or with the other and inside it
abbrev Before : Span → Span → Type 0
Before s t = (s.last < t.last) ⊎ ((s.last ≡ t.last) × (t.first < s.first))

-- the stretch spells the formula and lies between two marks
record Place (ms : List Mark) (low high : ℕ) (φ : Formula (List ℕ)) (s : Span) : Type 0 where
  spelled : Spells φ (drop s.first ms) (drop s.last ms)
  some : s.first < s.last
  after : low ≤ s.first
  before : s.last ≤ high

-- a stretch for each formula of a list, in order
record Row (ms : List Mark) (fs : List (Formula (List ℕ))) (low high : ℕ) : Type 0 where
  span : ℕ → Span
  place : (k : ℕ) → k < length fs → Place ms low high (get_or fs k bottom) (span k)
  order : (j k : ℕ) → j < k → k < length fs → Before (span j) (span k)

-- the stretches of one list, then those of another
abbrev chained : List (Formula (List ℕ)) → (ℕ → Span) → (ℕ → Span) → ℕ → Span
chained [] a b k = b k
chained (f ∷ fs) a b zero = a zero
chained (f ∷ fs) a b (suc k) = chained fs (λ (i : ℕ). a (suc i)) b k

-- what holds of each place in both lists holds in their chain
chained_all : (P : Formula (List ℕ) → Span → Type 0) (fs gs : List (Formula (List ℕ))) (a b : ℕ → Span)
    → ((k : ℕ) → k < length fs → P (get_or fs k bottom) (a k)) → ((k : ℕ) → k < length gs → P (get_or gs k bottom) (b k))
    → (k : ℕ) → k < length (fs ++ gs) → P (get_or (fs ++ gs) k bottom) (chained fs a b k)
chained_all P [] gs a b p q k l = q k l
chained_all P (f ∷ fs) gs a b p q zero l = p zero (omega arith)
chained_all P (f ∷ fs) gs a b p q (suc k) l = chained_all P fs gs (λ i. a (suc i)) b (λ i m. p (suc i) (omega arith)) q k (omega arith)

-- the chain is in order where both lists are and the first comes before the second
chained_order : (fs gs : List (Formula (List ℕ))) (a b : ℕ → Span) → ((j k : ℕ) → j < k → k < length fs → Before (a j) (a k))
    → ((j k : ℕ) → j < k → k < length gs → Before (b j) (b k)) → ((j k : ℕ) → j < length fs → k < length gs → Before (a j) (b k))
    → (j k : ℕ) → j < k → k < length (fs ++ gs) → Before (chained fs a b j) (chained fs a b k)
chained_order [] gs a b p q r j k m l = q j k m l
chained_order (f ∷ fs) gs a b p q r zero zero m l = let z : ⊥ = omega arith in absurd z
chained_order (f ∷ fs) gs a b p q r zero (suc k) m l =
    chained_all (λ (φ : Formula (List ℕ)) (s : Span). Before (a zero) s) fs gs (λ i. a (suc i)) b (λ i n. p zero (suc i) (omega arith) (omega arith))
    (λ i n. r zero i (omega arith) n) k (omega arith)
chained_order (f ∷ fs) gs a b p q r (suc j) zero m l = let z : ⊥ = omega arith in absurd z
chained_order (f ∷ fs) gs a b p q r (suc j) (suc k) m l =
    chained_order fs gs (λ i. a (suc i)) b (λ i n x y. p (suc i) (suc n) (omega arith) (omega arith)) q (λ i n x y. r (suc i) n (omega arith) y)
    j k (omega arith) (omega arith)

-- wider bounds
widen : {ms : List Mark} {low low' high high' : ℕ} {φ : Formula (List ℕ)} {s : Span} → low' ≤ low → high ≤ high'
    → Place ms low high φ s → Place ms low' high' φ s
widen l h p = record { spelled = p.spelled; some = p.some; after = omega arith; before = omega arith }

-- two rows, one before the other
chained_rows : {ms : List Mark} {fs gs : List (Formula (List ℕ))} {low low' high high' : ℕ} (r : Row ms fs low high) (q : Row ms gs low' high')
    → ((j k : ℕ) → j < length fs → k < length gs → Before (r.span j) (q.span k))
    → (n : ℕ) → n ≤ low → n ≤ low' → high ≤ high' → Row ms (fs ++ gs) n high'
chained_rows {ms} {fs} {gs} {low} {low'} {high} {high'} r q c n u v w = record {
  span = chained fs r.span q.span;
  place = chained_all (Place ms n high') fs gs r.span q.span (λ k l. widen u w (r.place k l)) (λ k l. widen v (omega arith) (q.place k l));
  order = chained_order fs gs r.span q.span r.order q.order c;
}

-- a row of one, the whole
abbrev single : {ms : List Mark} {φ : Formula (List ℕ)} (n : ℕ) → 0 < n → Spells φ ms (drop n ms) → Row ms (φ ∷ []) 0 n
single n p s = record {
  span = λ k. record { first = 0; last = n };
  place = λ k l. let e : k ≡ 0 = omega arith in rw e (record { spelled = s; some = p; after = omega arith; before = omega arith });
  order = λ j k m l. let z : ⊥ = omega arith in absurd z;
}

-- a row and the whole behind it
closed : {ms : List Mark} {fs : List (Formula (List ℕ))} {φ : Formula (List ℕ)} {low high : ℕ} (n : ℕ) → 0 < low → high ≤ n → 0 < n
    → Row ms fs low high → Spells φ ms (drop n ms) → Row ms (fs ++ (φ ∷ [])) 0 n
closed n u v w r s = chained_rows r (single n w s) (λ j k l m. let p = r.place j l in elim (cases_lt (r.span j).last n) [
  | inl a ↦ inl a
  | inr a ↦ inr (omega arith, omega arith)
]) 0 (omega arith) (omega arith) v

-- the same row behind more marks
moved : {ms : List Mark} {fs : List (Formula (List ℕ))} {low high : ℕ} (n : ℕ) → Row (drop n ms) fs low high → Row ms fs (n + low) (n + high)
moved {ms} n r = record {
  span = λ k. record { first = n + (r.span k).first; last = n + (r.span k).last };
  place = λ k l. let p = r.place k l in record { spelled = simp drop-drop at p.spelled; some = omega arith; after = omega arith; before = omega arith };
  order = λ j k m l. elim (r.order j k m l) [ inl a ↦ inl (omega arith) | inr a ↦ inr (omega arith, omega arith) ];
}

-- a spelled formula's number of marks, and the row of its places
record Laid (φ : Formula (List ℕ)) (ms rest : List Mark) : Type 0 where
  size : ℕ
  some : 0 < size
  fits : size + length rest ≡ length ms
  left : drop size ms ≡ rest
  row : Row ms (ends φ) 0 size

-- one place, of n marks
leaf : {φ : Formula (List ℕ)} {ms : List Mark} (n : ℕ) → 0 < n → n + length (drop n ms) ≡ length ms → ends φ ≡ φ ∷ [] → Spells φ ms (drop n ms)
    → Laid φ ms (drop n ms)
leaf n p f e s = record { size = n; some = p; fits = f; left = refl; row = rw e (single n p s) }

-- an operator before a rule
under : {χ φ : Formula (List ℕ)} {m : Mark} {ms rest : List Mark} → ends χ ≡ ends φ ++ (χ ∷ []) → Spells χ (m ∷ ms) rest → Laid φ ms rest → Laid χ (m ∷ ms) rest
under {χ} {φ} {m} {ms} e s a = record {
  size = suc a.size;
  some = omega arith;
  fits = omega arith;
  left = a.left;
  row = rw e (closed (suc a.size) (omega arith) (omega arith) (omega arith) (moved {ms = m ∷ ms} 1 a.row) (rw a.left s));
}

-- two rules in brackets
paired : {χ φ ψ : Formula (List ℕ)} {m : Mark} {ms ns rest : List Mark} → ends χ ≡ ends φ ++ (ends ψ ++ (χ ∷ [])) → Spells χ (opening ∷ ms) rest
    → Laid φ ms (m ∷ ns) → Laid ψ ns (closing ∷ rest) → Laid χ (opening ∷ ms) rest
paired {χ} {φ} {ψ} {m} {ms} {ns} {rest} e s a b =
    let n : ℕ = suc (a.size + 1) in let z : ℕ = n + (b.size + 1) in
    let c : drop n (opening ∷ ms) ≡ ns = sym (drop-drop 1 a.size ms) ∙ ap (drop 1) a.left in
    let d : drop z (opening ∷ ms) ≡ rest =
    sym (drop-drop (b.size + 1) n (opening ∷ ms)) ∙ (ap (drop (b.size + 1)) c ∙ (sym (drop-drop 1 b.size ns) ∙ ap (drop 1) b.left)) in
    let p = moved {ms = opening ∷ ms} 1 a.row in
    let q = moved {ms = opening ∷ ms} n (subst (λ (x : List Mark). Row x (ends ψ) 0 b.size) (sym c) b.row) in
    let r = chained_rows p q (λ j k l m. let x = p.place j l in let y = q.place k m in inl (omega arith)) 1 (omega arith) (omega arith) (omega arith) in
    record {
      size = z;
      some = omega arith;
      fits = omega arith;
      left = d;
      row = rw (e, ← append_assoc (ends φ) (ends ψ) (χ ∷ [])) (closed z (omega arith) (omega arith) (omega arith) r (rw d s));
    }

-- every spelled formula has such a row
laid : {φ : Formula (List ℕ)} {ms rest : List Mark} → Spells φ ms rest → Laid φ ms rest
laid spell_top = leaf 1 (omega arith) (omega arith) refl spell_top
laid spell_bottom = leaf 1 (omega arith) (omega arith) refl spell_bottom
laid spell_atom = leaf 1 (omega arith) (omega arith) refl spell_atom
laid spell_negated = leaf 2 (omega arith) (omega arith) refl spell_negated
laid (spell_eventually s) = under refl (spell_eventually s) (laid s)
laid (spell_always s) = under refl (spell_always s) (laid s)
laid (spell_both s t) = paired refl (spell_both s t) (laid s) (laid t)
laid (spell_either s t) = paired refl (spell_either s t) (laid s) (laid t)

-- the order of endings
pub ending_order : EndingOrder
ending_order φ ms rest s = let a = laid s in record {
  from = λ k. (a.row.span k).first;
  upto = λ k. (a.row.span k).last;
  spelled = λ k l. (a.row.place k l).spelled;
  some = λ k l. (a.row.place k l).some;
  inside = λ k l. let p = a.row.place k l in let f = a.fits in omega arith;
  order = a.row.order;
}
