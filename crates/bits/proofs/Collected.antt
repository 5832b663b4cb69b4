-- Numbers gathered from tests, bit by bit and joined. Assumes nothing.
use Rattle.std.proofs.Common.{◌≡◌, ℕ, zero, suc, ◌+◌, ◌-◌, ◌^◌, ◌<◌, ◌≤◌, Bool, true, false, cond, not, ◌&&◌, ◌||◌, sym, ap, ◌∙◌, subst, ap₂, inl, inr, add-one, arith}
use lib.Bits.{bit_and, bit_or, and_lt, or_lt}
use Rattle.std.proofs.lemmas.Bool.{cases_lt}
use Rattle.std.proofs.lemmas.Nat.{pow_pos}
use Rattle.ltl.specs.Words.{bit}
use Rattle.bits.specs.Gathered.{gathered}
use Rattle.bits.proofs.Bits.{bit_none, bit_put, bit_kept, put_below}
use Rattle.bits.proofs.Joined.{bit_bit_and, bit_bit_or, bit_not, bits_same}

-- it has m bits
pub gathered_below : (test : ℕ → Bool) (base m : ℕ) → gathered test base m < 2 ^ m
unfolding gathered
gathered_below test base zero = pow_pos 0
gathered_below test base (suc m) =
    subst (λ j. gathered test base m + cond (test (base + m)) (2 ^ m) 0 < 2 ^ j) (add-one m)
    (put_below m (gathered test base m) (test (base + m)) (gathered_below test base m))

-- and they are what the test says
pub gathered_bit : (test : ℕ → Bool) (base m k : ℕ) → k < m → bit k (gathered test base m) ≡ test (base + k)
unfolding gathered
gathered_bit test base zero k l = let z : ⊥ = omega arith in absurd z
gathered_bit test base (suc m) k l = elim (cases_lt k m) [
  | inl h ↦ bit_kept k m (gathered test base m) (test (base + m)) h ∙ gathered_bit test base m k h
  | inr h ↦ let same : m ≡ k = omega arith in
      subst (λ j. bit j (gathered test base m + cond (test (base + m)) (2 ^ m) 0) ≡ test (base + j)) same
      (bit_put m (gathered test base m) (test (base + m)) (gathered_below test base m))
]

-- from bit 0 on
pub gathered_at : (test : ℕ → Bool) (m k : ℕ) → k < m → bit k (gathered test 0 m) ≡ test k
gathered_at test m k l = gathered_bit test 0 m k l ∙ ap test (omega arith)

-- a number of m bits that are what the test says is gathered from it
pub gathered_is : (test : ℕ → Bool) (base m x : ℕ) → x < 2 ^ m → ((k : ℕ) → k < m → bit k x ≡ test (base + k)) → x ≡ gathered test base m
gathered_is test base m x h e = bits_same m x (gathered test base m) h (gathered_below test base m) (λ k l. e k l ∙ sym (gathered_bit test base m k l))

-- tests that agree gather the same
pub gathered_same : (f g : ℕ → Bool) (base m : ℕ) → ((k : ℕ) → k < m → f (base + k) ≡ g (base + k)) → gathered f base m ≡ gathered g base m
gathered_same f g base m e = gathered_is g base m (gathered f base m) (gathered_below f base m) (λ k l. gathered_bit f base m k l ∙ e k l)

-- what fails from bit m on adds nothing
pub gathered_past : (test : ℕ → Bool) (base m d : ℕ) → ((k : ℕ) → m ≤ k → test (base + k) ≡ false) → gathered test base (m + d) ≡ gathered test base m
unfolding gathered
gathered_past test base m zero e = ap (gathered test base) (omega arith)
gathered_past test base m (suc d) e =
    let up : m + suc d ≡ suc (m + d) = omega arith in
    ap (gathered test base) up ∙ ap (λ b. gathered test base (m + d) + cond b (2 ^ (m + d)) 0) (e (m + d) (omega arith))
    ∙ (let z : gathered test base (m + d) + 0 ≡ gathered test base (m + d) = omega arith in z) ∙ gathered_past test base m d e

module _ (f g : ℕ → Bool) (base m : ℕ) where
  pub gathered_and : bit_and (gathered f base m) (gathered g base m) ≡ gathered (λ k. f k && g k) base m
  gathered_and = gathered_is (λ k. f k && g k) base m _ (and_lt m _ _ (gathered_below f base m) (gathered_below g base m))
      (λ k l. bit_bit_and k (gathered f base m) (gathered g base m) ∙ ap₂ (λ b c. b && c) (gathered_bit f base m k l) (gathered_bit g base m k l))

  pub gathered_or : bit_or (gathered f base m) (gathered g base m) ≡ gathered (λ k. f k || g k) base m
  gathered_or = gathered_is (λ k. f k || g k) base m _ (or_lt m _ _ (gathered_below f base m) (gathered_below g base m))
      (λ k l. bit_bit_or k (gathered f base m) (gathered g base m) ∙ ap₂ (λ b c. b || c) (gathered_bit f base m k l) (gathered_bit g base m k l))

pub gathered_not : (f : ℕ → Bool) (base m : ℕ) → 2 ^ m - 1 - gathered f base m ≡ gathered (λ k. not (f k)) base m
gathered_not f base m = gathered_is (λ k. not (f k)) base m _ (omega (arith, pow_pos m))
    (λ k l. bit_not m k (gathered f base m) (gathered_below f base m) l ∙ ap not (gathered_bit f base m k l))

-- a test that never passes, and one that always does
pub gathered_zero : (base m : ℕ) → 0 ≡ gathered (λ _. false) base m
gathered_zero base m = gathered_is (λ _. false) base m 0 (pow_pos m) (λ k l. bit_none k 0 (pow_pos k))

pub gathered_ones : (base m : ℕ) → 2 ^ m - 1 ≡ gathered (λ _. true) base m
gathered_ones base m =
    let z : 2 ^ m - 1 ≡ 2 ^ m - 1 - 0 = omega arith in
    z ∙ ap (λ x. 2 ^ m - 1 - x) (gathered_zero base m) ∙ gathered_not (λ _. false) base m
