-- When a forecast is steady, from its letters. Assumes nothing.
use Rattle.std.proofs.Common.{◌≡◌, ℕ, zero, suc, ◌+◌, ◌-◌, ◌^◌, ◌≤◌, Bool, true, false, not, ◌&&◌, ◌||◌, eqb, ltb, List, length, sym, refl, ap, ◌∙◌, ap₂, inl, inr, arith}
use lib.Bits.{bit_and}
use Rattle.std.proofs.lemmas.Bool.{cases_Bool, eqb-true, eq-eqb, not-true, not_from_false, and_left}
use Rattle.ltl.specs.declared.Node.{Node}
use Rattle.bits.proofs.Collected.{gathered_same, gathered_and, gathered_not}
use Rattle.forecast.specs.Bounded.{some}
use Rattle.forecast.specs.Forecasts.{holds_at}
use Rattle.forecast.specs.Steady.{each_f, other_g, other_f, breaks, allowed, never_holds, never_fails, steady}
use Rattle.forecast.proofs.Tests.{some_bounded}
use Rattle.outlook.specs.declared.odds.Odds.{Odds}
use Rattle.outlook.specs.Letters.{letters_where}
use Rattle.outlook.specs.Pairs.{letters_over, others, AtOdds, allowed_letters}
use Rattle.outlook.proofs.Sets.{empty_right}

-- the letters that are left are the allowed ones
pub allowed_right : (n : ℕ) (ns : List Node) (I : ℕ) (o : Odds) → AtOdds ns I (length ns) o
    → bit_and (bit_and (letters_over n) (others o.breaking)) (others o.barred) ≡ allowed_letters n ns I
allowed_right n ns I o odds =
    ap₂ (λ x y. bit_and (bit_and (letters_over n) x) y) (ap others odds.breaking ∙ gathered_not (breaks n ns I) 0 64) (ap others odds.barred ∙ gathered_not bars 0 64)
    ∙ ap (λ x. bit_and x (letters_where (λ a. not (bars a)))) (gathered_and (λ a. ltb a (2 ^ n)) (λ a. not (breaks n ns I a)) 0 64)
    ∙ gathered_and (λ a. ltb a (2 ^ n) && not (breaks n ns I a)) (λ a. not (bars a)) 0 64
    ∙ gathered_same _ _ 0 64 (λ k h. and_assoc (ltb (0 + k) (2 ^ n)) (not (breaks n ns I (0 + k))) (not (bars (0 + k))))
  where
    bars : ℕ → Bool
    bars a = some (length ns) (other_f n ns I (λ q. holds_at ns a I q))

    and_assoc : (x y z : Bool) → ((x && y) && z) ≡ (x && (y && z))
    and_assoc true y z = refl
    and_assoc false y z = refl

-- some number passes one of two tests
some_or : (m : ℕ) (f g : ℕ → Bool) → some m (λ k. f k || g k) ≡ (some m f || some m g)
unfolding some
some_or zero f g = refl
some_or (suc m) f g = ap (λ b. b || (f m || g m)) (some_or m f g) ∙ swapped (some m f) (some m g) (f m) (g m)
  where
    swapped : (a b c d : Bool) → ((a || b) || (c || d)) ≡ ((a || c) || (b || d))
    swapped true b c d = refl
    swapped false true true d = refl
    swapped false true false d = refl
    swapped false false c d = refl

-- none passes where it passes neither
not_or : (a b : Bool) → not (a || b) ≡ (not a && not b)
not_or true b = refl
not_or false b = refl

module _ (n : ℕ) (ns : List Node) (I : ℕ) where
  -- whether a letter is allowed
  allowed_some : 2 ^ n ≤ 64 → eqb (allowed_letters n ns I) 0 ≡ not (some (2 ^ n) (allowed n ns I))
  allowed_some few =
      empty_right (λ a. ltb a (2 ^ n) && allowed n ns I a)
      ∙ ap (λ j. not (some j (λ a. ltb a (2 ^ n) && allowed n ns I a))) (let z : 64 ≡ 2 ^ n + (64 - 2 ^ n) = omega arith in z)
      ∙ ap not (some_bounded (2 ^ n) (64 - 2 ^ n) (allowed n ns I))

  pub none_allowed : 2 ^ n ≤ 64 → allowed_letters n ns I ≡ 0 → false ≡ steady n ns I
  none_allowed few e = sym (and_left _ _ (not-true _ (sym (allowed_some few) ∙ eq-eqb _ 0 e)))

  -- whether all nodes are met
  pub steady_is : 2 ^ n ≤ 64 → (allowed_letters n ns I ≡ 0 → ⊥)
      → not (some (length ns) (λ k. each_f n ns I (never_holds n ns I) k || other_g n ns I (never_fails n ns I) k)) ≡ steady n ns I
  steady_is few some-letter =
      let a : some (2 ^ n) (allowed n ns I) ≡ true = elim (cases_Bool (some (2 ^ n) (allowed n ns I))) [
        | inl t ↦ t
        | inr t ↦ absurd (some-letter (eqb-true _ 0 (allowed_some few ∙ not_from_false _ t)))
      ] in
      ap not (some_or (length ns) _ _) ∙ not_or _ _
      ∙ sym (ap (λ b. b && (not (some (length ns) (each_f n ns I (never_holds n ns I))) && not (some (length ns) (other_g n ns I (never_fails n ns I))))) a)
