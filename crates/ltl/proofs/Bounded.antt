-- Search among finitely many numbers, for a predicate that can be decided. Assumes nothing.
use Rattle.std.proofs.Common.{◌≡◌, ℕ, zero, suc, ◌<◌, ◌≤◌, ◌⊎◌, subst, arith}
use mathlib.Core.Logic.Dec
use mathlib.Core.Logic.◌⊎◌.{inl, inr}
use native.Mathlib.Decide.{dec_le, dec_lt}

-- some number from m on and below n has P
abbrev pub Somewhere : (ℕ → Type 0) → ℕ → ℕ → Type 0
Somewhere P m n = (k : ℕ) × (m ≤ k) × (k < n) × P k

-- every number from m on and below n has P
abbrev pub Throughout : (ℕ → Type 0) → ℕ → ℕ → Type 0
Throughout P m n = (k : ℕ) → m ≤ k → k < n → P k

-- some number below n has P, or none has
pub some_below : (P : ℕ → Type 0) → ((k : ℕ) → Dec (P k)) → (n : ℕ) → ((k : ℕ) × (k < n) × P k) ⊎ ((k : ℕ) → k < n → ¬ P k)
some_below P d zero = inr (λ k h p. omega arith)
some_below P d (suc n) = go (some_below P d n) (d n)
  where
    go : ((k : ℕ) × (k < n) × P k) ⊎ ((k : ℕ) → k < n → ¬ P k) → Dec (P n) → ((k : ℕ) × (k < suc n) × P k) ⊎ ((k : ℕ) → k < suc n → ¬ P k)
    go (inl f) e = inl (f.0, omega arith, f.2)
    go (inr none) (yes p) = inl (n, omega arith, p)
    go (inr none) (no q) = inr (λ k h p. elim (dec_lt k n) [ yes l ↦ none k l p | no l ↦ let e : k ≡ n = omega arith in q (subst P e p) ])

-- every number below n has P, or one has not
pub all_below : (P : ℕ → Type 0) → ((k : ℕ) → Dec (P k)) → (n : ℕ) → ((k : ℕ) → k < n → P k) ⊎ ((k : ℕ) × (k < n) × (¬ P k))
all_below P d n = go (some_below (λ k. ¬ P k) (λ k. Dec.not (d k)) n)
  where
    go : ((k : ℕ) × (k < n) × (¬ P k)) ⊎ ((k : ℕ) → k < n → ¬ ¬ P k) → ((k : ℕ) → k < n → P k) ⊎ ((k : ℕ) × (k < n) × (¬ P k))
    go (inl f) = inr f
    go (inr none) = inl (λ k l. (Dec.not-not (d k)).0 (none k l))

-- some number from m on and below n has P, or none has
pub some_from : (P : ℕ → Type 0) → ((k : ℕ) → Dec (P k)) → (m n : ℕ) → Somewhere P m n ⊎ Throughout (λ k. ¬ P k) m n
some_from P d m n = go (some_below (λ k. (m ≤ k) × P k) (λ k. Dec.and (dec_le m k) (d k)) n)
  where
    go : ((k : ℕ) × (k < n) × ((m ≤ k) × P k)) ⊎ ((k : ℕ) → k < n → ¬ ((m ≤ k) × P k)) → Somewhere P m n ⊎ Throughout (λ k. ¬ P k) m n
    go (inl f) = inl (f.0, f.2.0, f.1, f.2.1)
    go (inr none) = inr (λ k h l p. none k l (h, p))

-- every number from m on and below n has P, or one has not
pub all_from : (P : ℕ → Type 0) → ((k : ℕ) → Dec (P k)) → (m n : ℕ) → Throughout P m n ⊎ Somewhere (λ k. ¬ P k) m n
all_from P d m n = go (some_from (λ k. ¬ P k) (λ k. Dec.not (d k)) m n)
  where
    go : Somewhere (λ k. ¬ P k) m n ⊎ Throughout (λ k. ¬ ¬ P k) m n → Throughout P m n ⊎ Somewhere (λ k. ¬ P k) m n
    go (inl f) = inr f
    go (inr none) = inl (λ k h l. (Dec.not-not (d k)).0 (none k h l))
