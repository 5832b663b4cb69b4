-- What is looked up in a rule's tables. Assumes nothing.
use Rattle.std.proofs.Common.{◌≡◌, ℕ, ◌+◌, ◌^◌, ◌<◌, ◌≤◌, Some, false, eqb, ◌⊎◌, List, [], ◌∷◌, ◌++◌, length, get_or, take, slice_get, sym, ap, ◌∙◌, subst, inl, inr, arith, length-append}
use Rattle.std.specs.List.{list_any}
use Rattle.std.proofs.Math.ListN.{get_or-append}
use Rattle.std.proofs.Math.Seq.{get_or-append_seam}
use Rattle.std.proofs.lemmas.Bool.{cases_lt}
use Rattle.std.proofs.lemmas.List.{take_all}
use Rattle.std.proofs.lemmas.Option.{slice_get-get_or, slice_get_within, get_or_from_slice_get}
use Rattle.ltl.specs.declared.Node.{Node}
use Rattle.forecast.specs.Bounded.{some, nth}
use Rattle.forecast.specs.Forecasts.{recast}
use Rattle.forecast.specs.Steady.{steady}
use Rattle.forecast.proofs.Tests.{count_nothing, nth_before, nth_here, count_here, count_same}
use Rattle.outlook.specs.declared.pair.Pair.{Pair}
use Rattle.outlook.specs.Pairs.{PairOf}
use Rattle.outlook.proofs.Ruled.{any_up_to}
use Rattle.translate.specs.declared.row.Row.{Row}
use Rattle.translate.specs.Tables.{RowOf, Tabled, Listed}

-- an item of a list with one more
pushed : {X : Type 0} (xs : List X) (y : X) (p : ℕ) (q : X) → slice_get (xs ++ y ∷ []) p ≡ Some q
    → ((p < length xs) × (slice_get xs p ≡ Some q)) ⊎ ((p ≡ length xs) × (q ≡ y))
pushed xs y p q e = elim (cases_lt p (length xs)) [
  | inl h ↦ inl (h, slice_get-get_or xs p q h ∙ ap Some (sym (get_or-append xs (y ∷ []) q p h) ∙ get_or_from_slice_get (xs ++ y ∷ []) p q q e))
  | inr h ↦
      let last : p ≡ length xs = omega (arith, slice_get_within (xs ++ y ∷ []) p q e, length-append xs (y ∷ [])) in
      inr (last, sym (get_or_from_slice_get (xs ++ y ∷ []) p q q e) ∙ ap (λ i. get_or (xs ++ y ∷ []) i q) last ∙ get_or-append_seam xs y [] q)
]

-- stands for a row that is not there
abbrev pub absent_row : Row
absent_row = record { recasts = []; root = 0 }

module _ (n : ℕ) (ns : List Node) where
  pub tabled_more : (m : ℕ) (rows : List Row) (row : Row) → Tabled n ns m rows → RowOf n ns m row → Tabled n ns (m + 1) (rows ++ row ∷ [])
  tabled_more m rows row before here = record {
    many = omega (arith, length-append rows (row ∷ []), before.many);
    each = λ j r e. elim (pushed rows row j r e) [
      | inl old ↦ before.each j r old.1
      | inr new ↦ subst (RowOf n ns j) (sym new.1) (subst (λ i. RowOf n ns i row) (sym (new.0 ∙ before.many)) here)
    ];
  }

  pub row_at : (m : ℕ) (rows : List Row) → Tabled n ns m rows → (j : ℕ) → j < m → RowOf n ns j (get_or rows j absent_row)
  row_at m rows tabled j h = tabled.each j (get_or rows j absent_row) (slice_get-get_or rows j absent_row (omega (arith, tabled.many)))

  -- a forecast is the recast of some forecast where some row has it
  pub some_row : (m : ℕ) (rows : List Row) → Tabled n ns m rows → (letters : ℕ) → letters ≡ 2 ^ n → letters ≤ 64 → (J : ℕ)
      → list_any (λ (row : Row). list_any (λ K. eqb K J) (take letters row.recasts)) rows ≡ some m (λ I. some (2 ^ n) (λ a. eqb (recast ns a I) J))
  some_row m rows tabled letters all few J =
      ap (list_any (λ (row : Row). list_any (λ K. eqb K J) (take letters row.recasts))) (sym (take_all m rows (omega (arith, tabled.many))))
      ∙ any_up_to _ _ rows absent_row m (omega (arith, tabled.many)) (λ k l.
      let row = row_at m rows tabled k l in
      any_up_to (λ K. eqb K J) (λ a. eqb (recast ns a k) J) (get_or rows k absent_row).recasts 0 letters (omega (arith, row.size)) (λ a h. ap (λ x. eqb x J) (row.recasts a (omega (arith, all))))
      ∙ ap (λ j. some j (λ a. eqb (recast ns a k) J)) all)

  pub listed_none : Listed n ns 0 []
  listed_none = record { many = sym (count_nothing (steady n ns)); each = λ p pair e. let z : ⊥ = omega (arith, slice_get_within [] p pair e) in absurd z }

  module _ (i : ℕ) (pairs : List Pair) (before : Listed n ns i pairs) where
    earlier : (p : ℕ) (pair : Pair) → slice_get pairs p ≡ Some pair → PairOf n ns (nth (i + 1) (steady n ns) p) pair
    earlier p pair e =
        let inside : p < length pairs = slice_get_within pairs p pair e in
        subst (λ j. PairOf n ns j pair) (sym (nth_before (steady n ns) i p (omega (arith, before.many)))) (before.each p pair e)

    pub listed_more : (pair : Pair) → PairOf n ns i pair → Listed n ns (i + 1) (pairs ++ pair ∷ [])
    listed_more pair here = record {
      many = omega (arith, length-append pairs (pair ∷ []), before.many, count_here (steady n ns) i here.steady);
      each = λ p q e. elim (pushed pairs pair p q e) [
        | inl old ↦ earlier p q old.1
        | inr new ↦
            subst (PairOf n ns (nth (i + 1) (steady n ns) p)) (sym new.1)
            (subst (λ j. PairOf n ns j pair) (sym (ap (nth (i + 1) (steady n ns)) (new.0 ∙ before.many) ∙ nth_here (steady n ns) i here.steady)) here)
      ];
    }

    pub listed_same : steady n ns i ≡ false → Listed n ns (i + 1) pairs
    listed_same e = record { many = before.many ∙ sym (count_same (steady n ns) i e); each = earlier }
