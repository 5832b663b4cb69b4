-- What tests over the numbers below a bound tell. Assumes nothing.
use Rattle.std.proofs.Common.{◌≡◌, ℕ, zero, suc, ◌+◌, ◌<◌, ◌≤◌, Bool, true, false, cond, not, ◌&&◌, ◌||◌, eqb, ltb, ◌⊎◌, sym, refl, ap, ◌∙◌, subst, ap₂, add-one, arith}
use mathlib.Core.Logic.◌⊎◌.{inl, inr}
use Rattle.std.proofs.lemmas.Bool.{false≢true, eqb-false, eq-eqb, ne_eqb, lt-ltb, le-ltb, cases_lt, and_parts, and_from, and_cases, and_right, or_cases, or_left, or_right, cond_both, cond-true, cond-false}
use Rattle.forecast.specs.Bounded.{some, all, count, nth}

-- a test that passes below n passes at a number
pub some_found : (n : ℕ) (p : ℕ → Bool) → some n p ≡ true → (k : ℕ) × (k < n) × (p k ≡ true)
unfolding some
some_found zero p e = absurd (false≢true e)
some_found (suc n) p e = go (or_cases (some n p) (p n) e) (some_found n p)
  where
    go : (some n p ≡ true) ⊎ (p n ≡ true) → (some n p ≡ true → (k : ℕ) × (k < n) × (p k ≡ true)) → (k : ℕ) × (k < suc n) × (p k ≡ true)
    go (inl h) before = let f = before h in (f.0, omega arith, f.2)
    go (inr h) before = (n, omega arith, h)

-- a test that passes at a number below n passes below n
pub some_from : (n : ℕ) (p : ℕ → Bool) (k : ℕ) → k < n → p k ≡ true → some n p ≡ true
unfolding some
some_from zero p k l e = let z : ⊥ = omega arith in absurd z
some_from (suc n) p k l e = elim (cases_lt k n) [
  | inl h ↦ or_left _ _ (some_from n p k h e)
  | inr h ↦ let same : k ≡ n = omega arith in or_right _ _ (subst (λ j. p j ≡ true) same e)
]

-- where no number below n passes, none does
pub some_none : (n : ℕ) (p : ℕ → Bool) → ((k : ℕ) → k < n → p k ≡ true → ⊥) → some n p ≡ false
some_none n p none = go (some n p) refl
  where
    go : (b : Bool) → some n p ≡ b → b ≡ false
    go true e = let f = some_found n p e in absurd (none f.0 f.1 f.2)
    go false e = refl

-- what passes below n passes at each number
pub all_each : (n : ℕ) (p : ℕ → Bool) → all n p ≡ true → (k : ℕ) → k < n → p k ≡ true
unfolding all
all_each zero p e k l = let z : ⊥ = omega arith in absurd z
all_each (suc n) p e k l = let h = and_parts (all n p) (p n) e in elim (cases_lt k n) [
  | inl b ↦ all_each n p h.0 k b
  | inr b ↦ let same : n ≡ k = omega arith in subst (λ j. p j ≡ true) same h.1
]

-- one number passes at most once
one_le : (b : Bool) → cond b 1 0 ≤ 1
one_le true = omega arith
one_le false = omega arith

-- no more pass below n than there are numbers
pub count_le : (n : ℕ) (p : ℕ → Bool) → count n p ≤ n
unfolding count
count_le zero p = omega arith
count_le (suc n) p = omega (arith, count_le n p, one_le (p n))

-- a test that passes wherever another does passes at least as often
pub count_more : (n : ℕ) (p q : ℕ → Bool) → ((k : ℕ) → k < n → p k ≡ true → q k ≡ true) → count n p ≤ count n q
unfolding count
count_more zero p q h = omega arith
count_more (suc n) p q h = omega (arith, count_more n p q (λ k l. h k (omega arith)), go (p n) (q n) (h n (omega arith)))
  where
    go : (a b : Bool) → (a ≡ true → b ≡ true) → cond a 1 0 ≤ cond b 1 0
    go true true f = omega arith
    go true false f = absurd (false≢true (f refl))
    go false true f = omega arith
    go false false f = omega arith

-- where more than r pass, the one that nth gives passes and is below n
pub nth_found : (n : ℕ) (p : ℕ → Bool) (r : ℕ) → r < count n p → (nth n p r < n) × (p (nth n p r) ≡ true)
unfolding count nth
nth_found zero p r l = let z : ⊥ = omega arith in absurd z
nth_found (suc n) p r l = cond_both (p n && eqb (count n p) r) n (nth n p r) (λ x. (x < suc n) × (p x ≡ true)) here (before (nth_found n p r))
  where
    here : (p n && eqb (count n p) r) ≡ true → (n < suc n) × (p n ≡ true)
    here e = (omega arith, (and_parts (p n) (eqb (count n p) r) e).0)

    before : (r < count n p → (nth n p r < n) × (p (nth n p r) ≡ true)) → (p n && eqb (count n p) r) ≡ false → (nth n p r < suc n) × (p (nth n p r) ≡ true)
    before f e = elim (and_cases (p n) (eqb (count n p) r) e) [
      | inl h ↦ let g = f (omega (arith, cond-false {A = ℕ} (p n) 1 0 h)) in (omega arith, g.1)
      | inr h ↦ let apart : count n p ≡ r → ⊥ = eqb-false _ _ h in let g = f (omega (arith, one_le (p n))) in (omega arith, g.1)
    ]

-- each number that passes is the one with some r others before it
pub nth_each : (n : ℕ) (p : ℕ → Bool) (k : ℕ) → k < n → p k ≡ true → (r : ℕ) × (r < count n p) × (nth n p r ≡ k)
unfolding count nth
nth_each zero p k l e = let z : ⊥ = omega arith in absurd z
nth_each (suc n) p k l e = elim (cases_lt k n) [
  | inl h ↦ let f = nth_each n p k h e in
      let apart : (p n && eqb (count n p) f.0) ≡ false = and_right _ _ (ne_eqb (count n p) f.0 (λ s. omega arith)) in
      (f.0, omega arith, cond-false _ n (nth n p f.0) apart ∙ f.2)
  | inr h ↦ let same : k ≡ n = omega arith in let here : p n ≡ true = subst (λ j. p j ≡ true) same e in (
    count n p,
    omega (arith, cond-true {A = ℕ} (p n) 1 0 here),
    cond-true _ n (nth n p (count n p)) (and_from _ _ here (eq-eqb (count n p) _ refl)) ∙ sym same,
  )
]

-- one number more
pub some_next : (n : ℕ) (p : ℕ → Bool) → some (n + 1) p ≡ (some n p || p n)
unfolding some
some_next n p = ap (λ m. some m p) (add-one n)

pub count_next : (n : ℕ) (p : ℕ → Bool) → count (n + 1) p ≡ count n p + cond (p n) 1 0
unfolding count
count_next n p = ap (λ m. count m p) (add-one n)

pub nth_next : (n : ℕ) (p : ℕ → Bool) (r : ℕ) → nth (n + 1) p r ≡ cond (p n && eqb (count n p) r) n (nth n p r)
unfolding nth
nth_next n p r = ap (λ m. nth m p r) (add-one n)

-- no numbers yet
pub some_nothing : (p : ℕ → Bool) → some 0 p ≡ false
unfolding some
some_nothing p = refl

pub count_nothing : (p : ℕ → Bool) → count 0 p ≡ 0
unfolding count
count_nothing p = refl

-- tests that agree pass alike
pub some_same : (n : ℕ) (p q : ℕ → Bool) → ((k : ℕ) → k < n → p k ≡ q k) → some n p ≡ some n q
unfolding some
some_same zero p q h = refl
some_same (suc n) p q h = ap₂ (λ a b. a || b) (some_same n p q (λ k l. h k (omega arith))) (h n (omega arith))

-- a test that passes only below m passes below m, or below any larger bound
pub some_bounded : (m d : ℕ) (p : ℕ → Bool) → some (m + d) (λ k. ltb k m && p k) ≡ some m p
unfolding some
some_bounded m zero p =
    let none : m + 0 ≡ m = omega arith in
    ap (λ j. some j (λ k. ltb k m && p k)) none ∙ some_same m _ p (λ k l. ap (λ b. b && p k) (lt-ltb k m l))
some_bounded m (suc d) p =
    let up : m + suc d ≡ suc (m + d) = omega arith in
    ap (λ j. some j (λ k. ltb k m && p k)) up
    ∙ ap₂ (λ a b. a || (b && p (m + d))) (some_bounded m d p) (le-ltb (m + d) m (omega arith)) ∙ or_false (some m p)
  where
    or_false : (b : Bool) → (b || false) ≡ b
    or_false true = refl
    or_false false = refl

-- not all pass where some fail
pub not_all : (n : ℕ) (p : ℕ → Bool) → not (all n p) ≡ some n (λ k. not (p k))
unfolding all some
not_all zero p = refl
not_all (suc n) p = de_morgan (all n p) (p n) ∙ ap (λ b. b || not (p n)) (not_all n p)
  where
    de_morgan : (a b : Bool) → not (a && b) ≡ (not a || not b)
    de_morgan true b = refl
    de_morgan false b = refl

-- listing those that pass a test: one more, or none
module _ (p : ℕ → Bool) (k : ℕ) where
  pub nth_before : (j : ℕ) → j < count k p → nth (k + 1) p j ≡ nth k p j
  nth_before j h = nth_next k p j ∙ cond-false _ k (nth k p j) (and_right (p k) _ (ne_eqb (count k p) j (λ e. omega arith)))

  pub nth_here : p k ≡ true → nth (k + 1) p (count k p) ≡ k
  nth_here e = nth_next k p (count k p) ∙ cond-true _ k (nth k p (count k p)) (and_from _ _ e (eq-eqb (count k p) _ refl))

  pub count_here : p k ≡ true → count (k + 1) p ≡ count k p + 1
  count_here e = count_next k p ∙ ap (λ x. count k p + x) (cond-true (p k) 1 0 e)

  pub count_same : p k ≡ false → count (k + 1) p ≡ count k p
  count_same e = count_next k p ∙ ap (λ x. count k p + x) (cond-false (p k) 1 0 e) ∙ (let z : count k p + 0 ≡ count k p = omega arith in z)
