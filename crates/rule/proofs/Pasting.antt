-- One word after another, written over a list.
use Rattle.std.proofs.Common.{◌≡◌, ℕ, ◌+◌, ◌-◌, ◌≤◌, List, [], ◌∷◌, ◌++◌, length, take, drop, sym, ap, ◌∙◌, subst, arith, length-append}
use borrow.Rule.Slice.PartMut.{put_mid}
use Rattle.std.proofs.lemmas.List.{append_assoc, length-take-le, take_at, drop_at, drop-drop}
use Rattle.rule.specs.Written.{pasted, Wrote}

-- a word written behind another is both written as one
pub pasted_append : (at : ℕ) (v w xs : List ℕ) → at + length v ≤ length xs → pasted (at + length v) w (pasted at v xs) ≡ pasted at (v ++ w) xs
pasted_append at v w xs h =
    let p = take at xs ++ v in
    let q = drop (at + length v) xs in
    let t : length (take at xs) ≡ at = length-take-le at xs (omega arith) in
    let lp : length p ≡ at + length v = length-append (take at xs) v ∙ ap (λ n. n + length v) t in
    let e : pasted at v xs ≡ p ++ q = sym (append_assoc (take at xs) v q) in
    let front : take (at + length v) (p ++ q) ≡ p = take_at p q (at + length v) lp in
    let back : drop (at + length v + length w) (p ++ q) ≡ drop (at + length (v ++ w)) xs =
    sym (drop-drop (length w) (at + length v) (p ++ q)) ∙ ap (drop (length w)) (drop_at p q (at + length v) lp)
    ∙ drop-drop (length w) (at + length v) xs ∙ ap (λ n. drop n xs) (omega (arith, length-append v w)) in
    let s : pasted (at + length v) w (p ++ q) ≡ p ++ (w ++ drop (at + length (v ++ w)) xs) = λ i. front i ++ (w ++ back i) in
    ap (pasted (at + length v) w) e ∙ s ∙ simp append_assoc

-- a word written at the front stands before what was behind it
pub pasted_front : (w xs : List ℕ) → pasted 0 w xs ≡ w ++ drop (length w) xs
pasted_front w xs = ap (λ n. w ++ drop n xs) (omega arith)

-- one word written behind another
pub wrote_more : {at b c : ℕ} {v w xs ys zs : List ℕ} → at + length v ≤ length xs → Wrote at v xs b ys → Wrote b w ys c zs → Wrote at (v ++ w) xs c zs
wrote_more {at} {b} {c} {v} {w} {xs} {ys} {zs} h f g = record {
  after = g.after ∙ (λ i. pasted (f.end i) w (f.after i)) ∙ pasted_append at v w xs h;
  end = let e = f.end in let d = g.end in omega (arith, length-append v w);
}

-- two joined parts, written one after another with the brackets and the mark
pub wrote_joined : {at b c d e f : ℕ} {xs xs1 xs2 xs3 xs4 xs5 : List ℕ} (m : ℕ) (p q : List ℕ) → at + (3 + length p + length q) ≤ length xs
    → Wrote at (40 ∷ []) xs b xs1 → Wrote b p xs1 c xs2 → Wrote c (m ∷ []) xs2 d xs3 → Wrote d q xs3 e xs4 → Wrote e (41 ∷ []) xs4 f xs5
    → Wrote at (40 ∷ (p ++ (m ∷ (q ++ (41 ∷ []))))) xs f xs5
wrote_joined m p q h w1 w2 w3 w4 w5 =
    let one = wrote_more (omega arith) w1 w2 in
    let two = wrote_more (simp length-append (omega arith)) one w3 in
    let three = wrote_more (simp length-append (omega arith)) two w4 in
    let four = wrote_more (simp length-append (omega arith)) three w5 in
    simp append_assoc at four

-- what is left by copying a word into the part from `at` on
pub copied : (at : ℕ) (w xs ys : List ℕ) → ys ≡ w → put_mid at (at + length w - at) xs ys ≡ pasted at w xs
copied at w xs ys e = λ i. take at xs ++ (e i ++ back i)
  where
    back : drop (at + length w - at) (drop at xs) ≡ drop (at + length w) xs
    back = drop-drop (at + length w - at) at xs ∙ ap (λ n. drop n xs) (omega arith)

-- a word that is equal is written too
pub wrote_as : {at b : ℕ} {v w xs ys : List ℕ} → v ≡ w → Wrote at v xs b ys → Wrote at w xs b ys
wrote_as {at} {b} {v} {w} {xs} {ys} e f = subst (λ u. Wrote at u xs b ys) e f
