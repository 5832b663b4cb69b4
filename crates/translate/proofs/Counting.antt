-- The forecasts below a count, as a loop takes them from the range of all numbers of a byte. Assumes nothing.
use Rattle.std.proofs.Common.{◌≡◌, ℕ, ◌+◌, ◌-◌, ◌<◌, ◌≤◌, suc, Option, Some, None, Bool, true, false, List, ◌∷◌, length, take, sym, refl, ap, ◌∙◌, subst, arith, map-id}
use Rattle.std.specs.declared.ops.RangeInclusive.{RangeInclusive}
use Rattle.std.specs.declared.iter.Take.{Take}
use Rattle.std.specs.Range.{range_inclusive_start, range_inclusive_end, range_inclusive_exhausted, range_inclusive_len, range_inclusive_left, range_inclusive_steps}
use Rattle.std.specs.Iterator.{Yields}
use Rattle.std.specs.Iterator.Adapters.{take_source, take_count, take_steps}
use Rattle.std.specs.List.{range_with_len}
use Rattle.std.proofs.lemmas.Iterator.{YieldsList, YieldsList-from_take}
use Rattle.std.proofs.lemmas.Iterator.Consumers.{YieldsList-from_shown, YieldsList-turn, YieldsList-end}
use Rattle.std.proofs.lemmas.List.FromFn.{length-range_with_len, get_or-range_with_len, take-map-range_with_len}

abbrev gap : ℕ → ℕ → ℕ
gap a b = b - a

abbrev counts : RangeInclusive ℕ → Option ℕ → RangeInclusive ℕ → Type 0
counts = range_inclusive_steps gap (λ a b. b ≡ a + 1)

-- what a range has left
abbrev left : RangeInclusive ℕ → List ℕ
left s = range_with_len (range_inclusive_start s) (range_inclusive_left gap s)

left_none : (s t : RangeInclusive ℕ) → counts s None t → length (left s) ≡ 0
left_none s t p = length-range_with_len (range_inclusive_start s) (range_inclusive_left gap s) ∙ p.1.0

-- a spent range has nothing left, wherever it starts
moved : (a b e : ℕ) (spent : Bool) → (spent ≡ false → b ≡ a + 1) → range_with_len (a + 1) (range_inclusive_len gap b e spent) ≡ range_with_len b (range_inclusive_len gap b e spent)
moved a b e true h = refl
moved a b e false h = ap (λ c. range_with_len c (range_inclusive_len gap b e false)) (sym (h refl))

left_more : (s : RangeInclusive ℕ) (x : ℕ) (t : RangeInclusive ℕ) → counts s (Some x) t → left s ≡ x ∷ left t
left_more s x t p =
    let a = range_inclusive_start s in
    let k = range_inclusive_left gap t in
    ap (range_with_len a) (sym p.1.1)
    ∙ more a k
    ∙ ap (λ c. c ∷ range_with_len (a + 1) k) (sym p.1.0)
    ∙ ap (λ cs. x ∷ cs) (moved a (range_inclusive_start t) (range_inclusive_end t) (range_inclusive_exhausted t) p.1.2)
  where
    more : (a k : ℕ) → range_with_len a (k + 1) ≡ a ∷ range_with_len (a + 1) k
    more a k = ap (range_with_len a) (let e : k + 1 ≡ suc k = omega arith in e)

module _ {r : RangeInclusive ℕ} (start : range_inclusive_start r ≡ 0) (last : range_inclusive_end r ≡ 255) (fresh : range_inclusive_exhausted r ≡ false) {s : Take (RangeInclusive ℕ)} (source : take_source s ≡ r) (n : ℕ) (count : take_count s ≡ n) (few : n ≤ 256) where
  all : left r ≡ range_with_len 0 256
  all =
      ap (λ a. range_with_len a (range_inclusive_len gap a (range_inclusive_end r) (range_inclusive_exhausted r))) start
      ∙ ap (λ e. range_with_len 0 (range_inclusive_len gap 0 e (range_inclusive_exhausted r))) last
      ∙ ap (λ b. range_with_len 0 (range_inclusive_len gap 0 255 b)) fresh

  whole : YieldsList counts (λ x. x) (take_source s) (range_with_len 0 256)
  whole = subst (YieldsList counts (λ x. x) (take_source s)) (ap left source ∙ all) (YieldsList-from_shown counts (λ x. x) left left_none left_more (take_source s))

  first : take n (range_with_len 0 256) ≡ range_with_len 0 n
  first = ap (take n) (sym (map-id (range_with_len 0 256))) ∙ take-map-range_with_len (λ x. x) 0 256 n few ∙ map-id (range_with_len 0 n)

  below : YieldsList (take_steps counts) (λ x. x) s (range_with_len 0 n)
  below = subst (YieldsList (take_steps counts) (λ x. x) s) first (YieldsList-from_take n whole count)

  -- a turn's forecast is how many came before it
  pub count_turn : (xs : List ℕ) (t : Take (RangeInclusive ℕ)) → Yields (take_steps counts) s xs t → {o : Option ℕ} (u : Take (RangeInclusive ℕ)) {x : ℕ} → o ≡ Some x → take_steps counts t o u → (length xs < n) × (x ≡ length xs)
  count_turn xs t y {o} u {x} is step =
      let turn = YieldsList-turn below xs t y o u x is step in
      let inside : length xs < n = omega (arith, turn.0, length-range_with_len 0 n) in
      (inside, turn.1 ∙ get_or-range_with_len 0 n (length xs) x inside ∙ (omega arith))

  pub count_end : (xs : List ℕ) (t : Take (RangeInclusive ℕ)) → Yields (take_steps counts) s xs t → {o : Option ℕ} (u : Take (RangeInclusive ℕ)) → o ≡ None → take_steps counts t o u → length xs ≡ n
  count_end xs t y {o} u is step = (YieldsList-end below xs t y o u is step).1 ∙ length-range_with_len 0 n
