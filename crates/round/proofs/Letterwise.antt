-- Letters and the names that they speak of. Assumes nothing.
use Rattle.std.proofs.Common.{◌≡◌, ℕ, ◌+◌, ◌/◌, ◌^◌, ◌<◌, ◌≤◌, Bool, true, false, not, cond, eqb, List, [], ◌∷◌, ◌++◌, length, length-append, Ok, Option, Some, None, sym, refl, ap, ◌∙◌, inl, inr, arith, pow_mono}
use Rattle.std.specs.List.{position_from}
use Rattle.ltl.proofs.Search.{found_behind}
use Rattle.std.proofs.lemmas.Bool.{lt-ltb, cases_lt}
use Rattle.std.proofs.lemmas.Nat.{pow_pos, le-div, div_below}
use Rattle.std.proofs.lemmas.Bool.Decides.{Decides-eqb, Decides-ltb, Decides-like, same_from_decides, nat_tests}
use Rattle.refusal.specs.declared.Layer.TheVariants.{Round}
use Rattle.refusal.specs.Answers.{refused}
use Rattle.round.specs.Letters.{within, sound}

-- a byte has no bit from 8 on
pub byte_within : (n letter : ℕ) → 8 ≤ n → letter < 256 → true ≡ within n letter
byte_within n letter h b = let p : 2 ^ 8 ≤ 2 ^ n = pow_mono h in sym (lt-ltb letter (2 ^ n) (omega arith))

-- a letter without bits from n on is nothing shifted by n
pub shifted_within : (n letter : ℕ) → eqb (letter / 2 ^ n) 0 ≡ within n letter
shifted_within n letter =
    same_from_decides _ _ (Decides-like _ none gone (Decides-eqb (letter / 2 ^ n) 0)) (Decides-ltb letter (2 ^ n))
  where
    none : letter / 2 ^ n ≡ 0 → letter < 2 ^ n
    none e = elim (cases_lt letter (2 ^ n)) [ inl l ↦ l | inr l ↦ let z : ⊥ = omega (arith, le-div 1 letter (2 ^ n) (pow_pos n) (omega arith)) in absurd z ]

    gone : letter < 2 ^ n → letter / 2 ^ n ≡ 0
    gone l = omega (arith, div_below letter (2 ^ n) 1 (pow_pos n) (omega arith))

-- what is not within is what is first beyond
pub opposite : (b : Bool) → b ≡ not (not b)
opposite true = refl
opposite false = refl

module _ (n : ℕ) (lead cycle : List ℕ) (few : length lead + length cycle ≤ 1024) (some : 0 < length cycle) where
  pub refused_beyond : (i : ℕ) → Some i ≡ position_from (λ x. not (within n x)) 0 (lead ++ cycle) → refused 12 Round i ≡ sound n lead cycle
  refused_beyond i e = let f = found_behind (λ x. not (within n x)) (within n) (λ x. opposite (within n x)) (lead ++ cycle) in let l = length-append lead cycle in grind (arith, nat_tests)

  pub granted_within : None ≡ position_from (λ x. not (within n x)) 0 (lead ++ cycle) → Ok tt ≡ sound n lead cycle
  granted_within e = let f = found_behind (λ x. not (within n x)) (within n) (λ x. opposite (within n x)) (lead ++ cycle) in let l = length-append lead cycle in grind (arith, nat_tests)

-- a search through one list and then another goes through both
module _ (t : ℕ → Bool) where
  pub position_first : (m i : ℕ) (xs ys : List ℕ) → position_from t m xs ≡ Some i → position_from t m (xs ++ ys) ≡ Some i
  position_first m i [] ys e = absurd (no_place e)
    where
      no_place : ◌≡◌ {A = Option ℕ} None (Some i) → ⊥
      no_place e = grind arith
  position_first m i (x ∷ xs) ys e = go (t x) e (position_first (m + 1) i xs ys)
    where
      go : (b : Bool) → cond b (Some m) (position_from t (m + 1) xs) ≡ Some i → (position_from t (m + 1) xs ≡ Some i → position_from t (m + 1) (xs ++ ys) ≡ Some i)
          → cond b (Some m) (position_from t (m + 1) (xs ++ ys)) ≡ Some i
      go true e more = e
      go false e more = more e

  pub position_second : (m : ℕ) (xs ys : List ℕ) → position_from t m xs ≡ None → position_from t m (xs ++ ys) ≡ position_from t (m + length xs) ys
  position_second m [] ys e = ap (λ k. position_from t k ys) (omega arith)
  position_second m (x ∷ xs) ys e = go (t x) e (position_second (m + 1) xs ys)
    where
      go : (b : Bool) → cond b (Some m) (position_from t (m + 1) xs) ≡ None → (position_from t (m + 1) xs ≡ None → position_from t (m + 1) (xs ++ ys) ≡ position_from t (m + 1 + length xs) ys)
          → cond b (Some m) (position_from t (m + 1) (xs ++ ys)) ≡ position_from t (m + length (x ∷ xs)) ys
      go true e more = absurd (some_place e)
        where
          some_place : ◌≡◌ {A = Option ℕ} (Some m) None → ⊥
          some_place e = grind arith
      go false e more = more e ∙ ap (λ k. position_from t k ys) (omega arith)

  -- places from k on
  pub position_moved : (k m i : ℕ) (ys : List ℕ) → position_from t m ys ≡ Some i → position_from t (k + m) ys ≡ Some (k + i)
  position_moved k m i [] e = absurd (no_place e)
    where
      no_place : ◌≡◌ {A = Option ℕ} None (Some i) → ⊥
      no_place e = grind arith
  position_moved k m i (y ∷ ys) e = go (t y) e (position_moved k (m + 1) i ys)
    where
      go : (b : Bool) → cond b (Some m) (position_from t (m + 1) ys) ≡ Some i → (position_from t (m + 1) ys ≡ Some i → position_from t (k + (m + 1)) ys ≡ Some (k + i))
          → cond b (Some (k + m)) (position_from t (k + m + 1) ys) ≡ Some (k + i)
      go true e more = let same : m ≡ i = grind arith in ap (λ j. Some (k + j)) same
      go false e more = ap (λ j. position_from t j ys) (omega arith) ∙ more e

  pub position_nowhere : (k m : ℕ) (ys : List ℕ) → position_from t m ys ≡ None → position_from t (k + m) ys ≡ None
  position_nowhere k m [] e = refl
  position_nowhere k m (y ∷ ys) e = go (t y) e (position_nowhere k (m + 1) ys)
    where
      go : (b : Bool) → cond b (Some m) (position_from t (m + 1) ys) ≡ None → (position_from t (m + 1) ys ≡ None → position_from t (k + (m + 1)) ys ≡ None)
          → cond b (Some (k + m)) (position_from t (k + m + 1) ys) ≡ None
      go true e more = absurd (some_place e)
        where
          some_place : ◌≡◌ {A = Option ℕ} (Some m) None → ⊥
          some_place e = grind arith
      go false e more = ap (λ j. position_from t j ys) (omega arith) ∙ more e
