-- The visit sets of a forecast, gathered node by node. Assumes nothing.
use Rattle.std.proofs.Common.{◌≡◌, ℕ, ◌+◌, ◌^◌, ◌<◌, Bool, true, false, not, List, [], ◌∷◌, ◌++◌, length, get_or, sym, ap, ◌∙◌, subst, arith, below_more, length-append}
use Rattle.std.proofs.Math.ListN.{get_or-append}
use Rattle.std.proofs.Math.Seq.{get_or-append_seam}
use Rattle.ltl.specs.declared.Node.{Node}
use Rattle.ltl.specs.declared.Node.TheVariants.{True, Eventually}
use Rattle.ltl.specs.Arena.{first_of, temporal, temporals}
use Rattle.ltl.proofs.Meanings.{Tidy}
use Rattle.forecast.specs.Bounded.{all, count, nth}
use Rattle.forecast.specs.Forecasts.{holds_at}
use Rattle.forecast.specs.Steady.{visiting}
use Rattle.forecast.proofs.Tests.{count_more, count_nothing, nth_before, nth_here, count_here, count_same}
use Rattle.forecast.proofs.Bits.{count_temporals}
use Rattle.forecast.proofs.Members.{each_f_is, part_f}
use Rattle.outlook.specs.Letters.{letters_where}
use Rattle.outlook.specs.Pairs.{Visits}
use Rattle.outlook.proofs.Rows.{rank_below}

module _ (n : ℕ) (ns : List Node) (I k : ℕ) where
  -- what is visited is an F
  visiting_is : visiting n ns I k ≡ true → (q : ℕ) × (get_or ns k True ≡ Eventually q)
  visiting_is e = let f = each_f_is n ns I (λ q. not (all (2 ^ n) (λ a. holds_at ns a I q))) k e in (f.0, f.1)

  pub visiting_temporal : visiting n ns I k ≡ true → temporal (get_or ns k True) ≡ true
  visiting_temporal e = ap temporal (visiting_is e).1

  pub visiting_part : Tidy ns → k < length ns → visiting n ns I k ≡ true → first_of (get_or ns k True) < k
  visiting_part tidy l e = let f = visiting_is e in subst (λ q. q < k) (sym (ap first_of f.1)) (part_f ns tidy k f.0 l f.1)

-- there are no more of them than temporal nodes before
pub few_visited : (n : ℕ) (ns : List Node) (I k : ℕ) → k < length ns → visiting n ns I k ≡ true → count k (visiting n ns I) < temporals ns
few_visited n ns I k l e =
    omega (
      arith,
      count_more k (visiting n ns I) (λ j. temporal (get_or ns j True)) (λ j h f. visiting_temporal n ns I j f),
      count_temporals ns k (omega arith),
      rank_below ns k l (visiting_temporal n ns I k e),
    )

module _ (n : ℕ) (ns : List Node) (I k : ℕ) (v : List ℕ) (before : Visits n ns I k v) where
  pub visits_more : (w : ℕ) → visiting n ns I k ≡ true
      → w ≡ letters_where (λ a. holds_at ns a I (first_of (get_or ns k True))) → Visits n ns I (k + 1) (v ++ w ∷ [])
  visits_more w e is = record {
    count = omega (arith, length-append v (w ∷ []), before.count, count_here p k e);
    letters = λ j h. below_more Right (length v) kept here j (omega (arith, length-append v (w ∷ [])));
  }
    where
      p : ℕ → Bool
      p = visiting n ns I

      Right : ℕ → Type 0
      Right j = get_or (v ++ w ∷ []) j 0 ≡ letters_where (λ a. holds_at ns a I (first_of (get_or ns (nth (k + 1) p j) True)))

      kept : (j : ℕ) → j < length v → Right j
      kept j h =
          get_or-append v (w ∷ []) 0 j h ∙ before.letters j h
          ∙ ap (λ i. letters_where (λ a. holds_at ns a I (first_of (get_or ns i True)))) (sym (nth_before p k j (omega (arith, before.count))))

      here : Right (length v)
      here =
          get_or-append_seam v w [] 0 ∙ is
          ∙ ap (λ i. letters_where (λ a. holds_at ns a I (first_of (get_or ns i True)))) (sym (ap (nth (k + 1) p) before.count ∙ nth_here p k e))

  pub visits_same : visiting n ns I k ≡ false → Visits n ns I (k + 1) v
  visits_same e = record {
    count = before.count ∙ sym (count_same (visiting n ns I) k e);
    letters = λ j h. before.letters j h ∙ ap (λ i. letters_where (λ a. holds_at ns a I (first_of (get_or ns i True))))
        (sym (nth_before (visiting n ns I) k j (omega (arith, before.count))));
  }

-- none yet
pub visits_none : (n : ℕ) (ns : List Node) (I : ℕ) → Visits n ns I 0 []
visits_none n ns I = record { count = sym (count_nothing (visiting n ns I)); letters = λ j h. let z : ⊥ = omega arith in absurd z }
