-- The parts of fields that are written out, and what stands at the front of bytes. Assumes nothing.
use Rattle.std.proofs.Common.{◌≡◌, ℕ, suc, ◌+◌, ◌*◌, ◌/◌, ◌%◌, ◌<◌, ◌≤◌, Bool, true, false, leb, List, [], ◌∷◌, ◌++◌, length, get_or, take, drop, sym, refl, ap, ◌∙◌, subst, ap₂, arith}
use Rattle.std.specs.List.{flat_map}
use Rattle.std.proofs.lemmas.List.{take_at, drop_at, length-append, length-take-le, take-append-drop, get_or-append-add}
use Rattle.std.proofs.lemmas.Bool.{le-leb, leb-true, cond-true, cond-false}
use Rattle.fields.specs.Pieces.{Part, told, parts_from, encoded}
use Rattle.fields.specs.Pieces.Part.{whole, cut}
use Rattle.fields.proofs.Stretch.{pass_over}

-- fields, by tag and body, written one behind another
abbrev pub written : List (ℕ × List ℕ) → List ℕ
written fs = flat_map (λ f. encoded f.0 f.1) fs

-- fields as parts, the first at place p
abbrev pub placed : ℕ → List (ℕ × List ℕ) → List Part
placed p [] = []
placed p (f ∷ fs) = whole p f.0 f.1 ∷ placed (p + 3 + length f.1) fs

-- a field written out is read back whole, and the parts go on behind it
pub parts_encoded : (p t : ℕ) (b rest : List ℕ) → parts_from p 0 (encoded t b ++ rest) ≡ whole p t b ∷ parts_from (p + 3 + length b) 0 rest
parts_encoded p t b rest =
    let bs : List ℕ = (length b / 256) ∷ (length b % 256) ∷ (b ++ rest) in
    let size : told bs ≡ length b = omega arith in
    let fits : 2 + told bs ≤ length bs = omega (arith, length-append b rest) in
    let two : 2 + told bs ≡ suc (suc (length b)) = omega arith in
    let place : p + 1 + suc (suc (length b)) ≡ p + 3 + length b = omega arith in
    let body : take (told bs) (b ++ rest) ≡ b = take_at b rest (told bs) (sym size) in
    let behind : parts_from (p + 1) (2 + told bs) bs ≡ parts_from (p + 3 + length b) 0 rest =
    ap (λ k. parts_from (p + 1) k bs) two ∙ pass_over (p + 1) (suc (suc (length b))) bs
    ∙ ap₂ (λ q l. parts_from q 0 l) place (drop_at b rest (length b) refl) in
    cond-true _ _ _ (le-leb (2 + told bs) (length bs) fits) ∙ ap₂ (λ x ps. whole p t x ∷ ps) body behind

-- the parts of fields written out are these fields
pub parts_written : (p : ℕ) (fs : List (ℕ × List ℕ)) → parts_from p 0 (written fs) ≡ placed p fs
parts_written p [] = refl
parts_written p (f ∷ fs) = parts_encoded p f.0 f.1 (written fs) ∙ ap (λ ps. whole p f.0 f.1 ∷ ps) (parts_written (p + 3 + length f.1) fs)

-- what stands at the front of bytes at place p: nothing, a field, or one that runs past the end
pub data Ahead (p : ℕ) (bs : List ℕ) : Type 0 where
  nothing : bs ≡ [] → Ahead p bs
  field : (t : ℕ) (b more : List ℕ) → bs ≡ encoded t b ++ more → Ahead p bs
  runs : parts_from p 0 bs ≡ cut p ∷ [] → Ahead p bs

-- no field is written where one runs past the end
pub runs_past : (p : ℕ) (bs : List ℕ) → parts_from p 0 bs ≡ cut p ∷ [] → (t : ℕ) (b more : List ℕ) → bs ≡ encoded t b ++ more → ⊥
runs_past p bs h t b more e =
    let w : whole p t b ∷ parts_from (p + 3 + length b) 0 more ≡ cut p ∷ [] = sym (parts_encoded p t b more) ∙ ap (parts_from p 0) (sym e) ∙ h in
    cc

-- bytes that have room for the field they tell of are that field, written out, and more
field_ahead : (p t : ℕ) (bs : List ℕ) → ((i : ℕ) → get_or bs i 0 < 256) → 2 + told bs ≤ length bs → Ahead p (t ∷ bs)
field_ahead p t [] small h = let z : ⊥ = omega arith in absurd z
field_ahead p t (x ∷ []) small h = let z : ⊥ = omega arith in absurd z
field_ahead p t (x ∷ y ∷ bs) small h =
    let n : ℕ = x * 256 + y in
    let sx : x < 256 = small 0 in
    let sy : y < 256 = small 1 in
    let size : length (take n bs) ≡ n = length-take-le n bs (omega arith) in
    let high : x ≡ length (take n bs) / 256 = omega arith in
    let low : y ≡ length (take n bs) % 256 = omega arith in
    field t (take n bs) (drop n bs) (λ i. t ∷ high i ∷ low i ∷ sym (take-append-drop n bs) i)

-- every front of bytes is one of the three
pub ahead : (p : ℕ) (bs : List ℕ) → ((i : ℕ) → get_or bs i 0 < 256) → Ahead p bs
ahead p [] small = nothing refl
ahead p (t ∷ bs) small = go (leb (2 + told bs) (length bs)) refl
  where
    go : (r : Bool) → leb (2 + told bs) (length bs) ≡ r → Ahead p (t ∷ bs)
    go true e = field_ahead p t bs (λ i. small (suc i)) (leb-true (2 + told bs) (length bs) e)
    go false e = runs (cond-false _ _ _ e)

-- what stands behind bytes are bytes too
pub bytes_behind : (xs ys : List ℕ) → ((i : ℕ) → get_or (xs ++ ys) i 0 < 256) → (i : ℕ) → get_or ys i 0 < 256
bytes_behind xs ys small i = subst (λ x. x < 256) (get_or-append-add xs ys i 0) (small (length xs + i))
