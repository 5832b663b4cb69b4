-- The fields of bytes from a place on. Assumes nothing.
use Rattle.std.proofs.Common.{◌≡◌, ℕ, zero, suc, ◌+◌, ◌*◌, ◌<◌, ◌≤◌, List, [], ◌∷◌, length, get_or, take, drop, sym, refl, ap, ◌∙◌, ap₂, arith, add-zero, length-drop}
use Rattle.std.proofs.lemmas.List.{drop_more, drop-drop, get_or-drop}
use Rattle.std.proofs.lemmas.Bool.{le-leb, cond-true}
use Rattle.fields.specs.Pieces.{told, parts_from}
use Rattle.fields.specs.Pieces.Part.{whole}
use Rattle.fields.specs.Walked.{next}
use Rattle.fields.specs.Walked.Met.{took}

-- bytes that belong to the field before are passed over
pub pass_over : (p k : ℕ) (bs : List ℕ) → parts_from p k bs ≡ parts_from (p + k) 0 (drop k bs)
pass_over p zero [] = refl
pass_over p (suc k) [] = refl
pass_over p zero (b ∷ bs) = let e : p ≡ p + 0 = omega arith in ap (λ q. parts_from q 0 (b ∷ bs)) e
pass_over p (suc k) (b ∷ bs) = let e : p + 1 + k ≡ p + suc k = omega arith in pass_over (p + 1) k bs ∙ ap (λ q. parts_from q 0 (drop k bs)) e

module _ (t : List ℕ) (i : ℕ) (inside : i < length t) where
  at_tag : parts_from i 0 (drop i t) ≡ parts_from i 0 (get_or t i 0 ∷ drop (i + 1) t)
  at_tag = ap (parts_from i 0) (drop_more t i 0 inside)

  parts_whole : (n : ℕ) → n ≡ told (drop (i + 1) t) → i + 3 + n ≤ length t → parts_from i 0 (drop i t) ≡ whole i (get_or t i 0) (take n (drop (i + 3) t)) ∷ parts_from (i + 3 + n) 0 (drop (i + 3 + n) t)
  parts_whole n e h =
      let bs = drop (i + 1) t in
      let three : i + 1 + 2 ≡ i + 3 = omega arith in
      let body : take (told bs) (drop 2 bs) ≡ take n (drop (i + 3) t) = ap₂ (λ k l. take k l) (sym e) (drop-drop 2 (i + 1) t ∙ ap (λ k. drop k t) three) in
      let end : i + 1 + (2 + told bs) ≡ i + 3 + n = omega arith in
      let rest : parts_from (i + 1) (2 + told bs) bs ≡ parts_from (i + 3 + n) 0 (drop (i + 3 + n) t) =
      pass_over (i + 1) (2 + told bs) bs ∙ ap (parts_from (i + 1 + (2 + told bs)) 0) (drop-drop (2 + told bs) (i + 1) t) ∙ ap (λ q. parts_from q 0 (drop q t)) end in
      at_tag ∙ cond-true _ _ _ (le-leb (2 + told bs) (length bs) (simp length-drop (omega arith))) ∙ ap₂ (λ b ps. whole i (get_or t i 0) b ∷ ps) body rest

-- what stands behind place i, with a length and as many bytes as it tells, is the next field
pub field_next : (t : List ℕ) (i n : ℕ) (rest body : List ℕ) → rest ≡ drop i t → 3 + n ≤ length rest → n ≡ get_or rest 1 0 * 256 + get_or rest 2 0 → body ≡ take n (drop 3 rest)
    → took i (get_or rest 0 0) body (parts_from (i + 3 + n) 0 (drop (i + 3 + n) t)) ≡ next (parts_from i 0 (drop i t))
field_next t i n rest body e fits told_n at_body =
    let long : i + 3 + n ≤ length t = omega (arith, ap length e, length-drop i t) in
    let at : (k : ℕ) → get_or rest k 0 ≡ get_or t (i + k) 0 = λ k. ap (λ l. get_or l k 0) e ∙ get_or-drop i t k 0 in
    let tag : get_or rest 0 0 ≡ get_or t i 0 = at 0 ∙ ap (λ k. get_or t k 0) (add-zero i) in
    let one : get_or rest 1 0 ≡ get_or (drop (i + 1) t) 0 0 = at 1 ∙ ap (λ k. get_or t k 0) (sym (add-zero (i + 1))) ∙ sym (get_or-drop (i + 1) t 0 0) in
    let two : get_or rest 2 0 ≡ get_or (drop (i + 1) t) 1 0 = at 2 ∙ ap (λ k. get_or t k 0) (omega arith) ∙ sym (get_or-drop (i + 1) t 1 0) in
    let tells : n ≡ told (drop (i + 1) t) = told_n ∙ ap₂ (λ h l. h * 256 + l) one two in
    let behind : drop 3 rest ≡ drop (i + 3) t = ap (drop 3) e ∙ drop-drop 3 i t in
    let own : body ≡ take n (drop (i + 3) t) = at_body ∙ ap (take n) behind in
    ap₂ (λ x b. took i x b (parts_from (i + 3 + n) 0 (drop (i + 3 + n) t))) tag own
    ∙ sym (ap next (parts_whole t i (omega arith) n tells long))
