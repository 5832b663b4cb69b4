-- The bits of words joined by `&`, `|` and `!`, and words with the same bits. Assumes nothing.
use Rattle.std.proofs.Common.{◌≡◌, ℕ, zero, suc, ◌+◌, ◌-◌, ◌*◌, ◌/◌, ◌%◌, ◌^◌, ◌<◌, Bool, true, false, not, ◌&&◌, ◌||◌, eqb, ◌⊎◌, sym, refl, ap, ◌∙◌, ap₂, inl, inr, add-mul, arith}
use lib.Bits.{bit_and, bit_or, and_shr, or_shr, and_mod, or_mod}
use Rattle.std.proofs.lemmas.Bool.{true≢false, false≢true}
use Rattle.std.proofs.lemmas.Nat.{pow_pos, pow-add, shr-shr, shr_split, div-mul-add, div_below, mod_below}
use Rattle.ltl.specs.Words.{bit}

-- a number below 2 is 0 or 1
below_two : (x : ℕ) → x < 2 → (x ≡ 0) ⊎ (x ≡ 1)
below_two zero h = inl refl
below_two (suc zero) h = inr refl
below_two (suc (suc x)) h = let z : ⊥ = omega arith in absurd z

-- single bits joined, by what the four ways give
single : (f : ℕ → ℕ → ℕ) (g : Bool → Bool → Bool)
    → eqb (f 0 0) 1 ≡ g false false → eqb (f 0 1) 1 ≡ g false true → eqb (f 1 0) 1 ≡ g true false → eqb (f 1 1) 1 ≡ g true true
    → (x y : ℕ) → x < 2 → y < 2 → eqb (f x y) 1 ≡ g (eqb x 1) (eqb y 1)
single f g e₀ e₁ e₂ e₃ x y hx hy = elim (below_two x hx) [
  | inl a ↦ elim (below_two y hy) [ inl b ↦ go 0 0 a b e₀ | inr b ↦ go 0 1 a b e₁ ]
  | inr a ↦ elim (below_two y hy) [ inl b ↦ go 1 0 a b e₂ | inr b ↦ go 1 1 a b e₃ ]
]
  where
    go : (u v : ℕ) → x ≡ u → y ≡ v → eqb (f u v) 1 ≡ g (eqb u 1) (eqb v 1) → eqb (f x y) 1 ≡ g (eqb x 1) (eqb y 1)
    go u v a b e = ap₂ (λ s t. eqb (f s t) 1) a b ∙ e ∙ sym (ap₂ (λ s t. g (eqb s 1) (eqb t 1)) a b)

pub bit_bit_and : (k x y : ℕ) → bit k (bit_and x y) ≡ (bit k x && bit k y)
bit_bit_and k x y =
    ap (λ q. eqb (q % 2) 1) (and_shr x y k) ∙ ap (λ q. eqb q 1) (and_mod (x / 2 ^ k) (y / 2 ^ k) 1)
    ∙ single bit_and (λ b c. b && c) refl refl refl refl ((x / 2 ^ k) % 2) ((y / 2 ^ k) % 2) (omega arith) (omega arith)

pub bit_bit_or : (k x y : ℕ) → bit k (bit_or x y) ≡ (bit k x || bit k y)
bit_bit_or k x y =
    ap (λ q. eqb (q % 2) 1) (or_shr x y k) ∙ ap (λ q. eqb q 1) (or_mod (x / 2 ^ k) (y / 2 ^ k) 1)
    ∙ single bit_or (λ b c. b || c) refl refl refl refl ((x / 2 ^ k) % 2) ((y / 2 ^ k) % 2) (omega arith) (omega arith)

module _ (m k x : ℕ) (h : x < 2 ^ m) (l : k < m) where
  -- twice this is the bound of what is left of x without its low bits
  abbrev d : ℕ
  d = 2 ^ (m - k - 1)

  abbrev q : ℕ
  q = x / 2 ^ k

  -- what is left of the complement
  abbrev c : ℕ
  c = d * 2 - 1 - q

  split : 2 ^ m ≡ (d * 2) * 2 ^ k
  split = ap (λ j. 2 ^ j) (omega arith) ∙ pow-add 2 (m - k - 1 + 1) k ∙ ap (λ c. c * 2 ^ k) (pow-add 2 (m - k - 1) 1)

  small : q < d * 2
  small = div_below x (2 ^ k) (d * 2) (pow_pos k) (omega (arith, split))

  whole : 2 ^ m - 1 - x ≡ c * 2 ^ k + (2 ^ k - 1 - x % 2 ^ k)
  whole =
      let e : d * 2 ≡ (c + q) + 1 = omega (arith, small) in
      let f : (d * 2) * 2 ^ k ≡ (c * 2 ^ k + q * 2 ^ k) + 1 * 2 ^ k =
      ap (λ y. y * 2 ^ k) e ∙ add-mul (c + q) 1 (2 ^ k) ∙ ap (λ y. y + 1 * 2 ^ k) (add-mul c q (2 ^ k)) in
      omega (arith, f, split, shr_split x k, mod_below x (2 ^ k) (pow_pos k))

  odd : eqb (c % 2) 1 ≡ not (eqb (q % 2) 1)
  odd = elim (below_two (q % 2) (omega arith)) [
    | inl e ↦ let o : c % 2 ≡ 1 = omega (arith, small) in ap (λ r. eqb r 1) o ∙ sym (ap (λ r. not (eqb r 1)) e)
    | inr e ↦ let o : c % 2 ≡ 0 = omega (arith, small) in ap (λ r. eqb r 1) o ∙ sym (ap (λ r. not (eqb r 1)) e)
  ]

  -- the bits of a complement
  pub bit_not : bit k (2 ^ m - 1 - x) ≡ not (bit k x)
  bit_not =
      ap (λ y. bit k y) whole
      ∙ ap (λ r. eqb (r % 2) 1) (div-mul-add c (2 ^ k) (2 ^ k - 1 - x % 2 ^ k) (omega (arith, pow_pos k))) ∙ odd

-- the bits of a half are the higher ones
bit_half : (k x : ℕ) → bit k (x / 2) ≡ bit (suc k) x
bit_half k x = ap (λ q. eqb (q % 2) 1) (shr-shr x 1 k ∙ ap (λ j. x / 2 ^ j) (omega arith))

-- words of m bits are the same where their bits are
pub bits_same : (m x y : ℕ) → x < 2 ^ m → y < 2 ^ m → ((k : ℕ) → k < m → bit k x ≡ bit k y) → x ≡ y
bits_same zero x y hx hy h = omega arith
bits_same (suc m) x y hx hy h =
    let p : 2 ^ suc m ≡ 2 * 2 ^ m = ap (λ j. 2 ^ j) (omega arith) ∙ pow-add 2 1 m in
    let halves : x / 2 ≡ y / 2 = bits_same m (x / 2) (y / 2) (omega (arith, p)) (omega (arith, p)) (λ k l. bit_half k x ∙ h (suc k) (omega arith) ∙ sym (bit_half k y)) in
    let last : x % 2 ≡ y % 2 = parity (x % 2) (y % 2) (omega arith) (omega arith) (sym (low x) ∙ h 0 (omega arith) ∙ low y) in
    omega arith
  where
    low : (z : ℕ) → bit 0 z ≡ eqb (z % 2) 1
    low z = ap (λ v. eqb (v % 2) 1) (omega arith)

    parity : (u v : ℕ) → u < 2 → v < 2 → eqb u 1 ≡ eqb v 1 → u ≡ v
    parity u v hu hv e = elim (below_two u hu) [
      | inl a ↦ elim (below_two v hv) [ inl b ↦ a ∙ sym b | inr b ↦ absurd (false≢true (sym (ap (λ r. eqb r 1) a) ∙ e ∙ ap (λ r. eqb r 1) b)) ]
      | inr a ↦ elim (below_two v hv) [ inl b ↦ absurd (true≢false (sym (ap (λ r. eqb r 1) a) ∙ e ∙ ap (λ r. eqb r 1) b)) | inr b ↦ a ∙ sym b ]
    ]
