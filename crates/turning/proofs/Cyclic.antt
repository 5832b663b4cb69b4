-- A turn that goes round k sets, moved by each meeting of the set that it is on. Assumes nothing.
use Rattle.std.proofs.Common.{◌≡◌, ℕ, zero, suc, ◌+◌, ◌-◌, ◌<◌, ◌≤◌, Bool, true, false, cond, ltb, ◌⊎◌, sym, refl, ap, ◌∙◌, inl, inr, arith}
use native.Mathlib.Decide.{dec_lt}
use Rattle.std.proofs.lemmas.Bool.Decides.{nat_tests}

-- a test is true or false
pub cases : (b : Bool) → (b ≡ true) ⊎ (b ≡ false)
cases true = inl refl
cases false = inr refl

-- the turn at each position, and whether a set is met there
module _ (k : ℕ) (turn : ℕ → ℕ) (met : ℕ → ℕ → Bool)
    (moves : (i : ℕ) → turn (suc i) ≡ cond (met (turn i) i) (cond (ltb (turn i + 1) k) (turn i + 1) 0) (turn i)) where
  -- where the set is not met, the turn stays
  pub turn_stays : (i : ℕ) → met (turn i) i ≡ false → turn (suc i) ≡ turn i
  turn_stays i h = moves i ∙ ap (λ b. cond b (cond (ltb (turn i + 1) k) (turn i + 1) 0) (turn i)) h

  -- where it is met and is not the last, the turn goes on
  pub turn_goes : (i : ℕ) → met (turn i) i ≡ true → turn i + 1 < k → turn (suc i) ≡ turn i + 1
  turn_goes i h l = moves i ∙ ap (λ b. cond b (cond (ltb (turn i + 1) k) (turn i + 1) 0) (turn i)) h ∙ grind (arith, nat_tests)

  -- where the last is met, the turn goes back to the first
  pub turn_wraps : (i : ℕ) → met (turn i) i ≡ true → k ≤ turn i + 1 → turn (suc i) ≡ 0
  turn_wraps i h l = moves i ∙ ap (λ b. cond b (cond (ltb (turn i + 1) k) (turn i + 1) 0) (turn i)) h ∙ grind (arith, nat_tests)

  -- the turn is on one of the sets
  pub turn_below : 0 < k → turn 0 ≡ 0 → (i : ℕ) → turn i < k
  turn_below pos first zero = omega arith
  turn_below pos first (suc i) = let h = turn_below pos first i in elim (cases (met (turn i) i)) [
    | inl t ↦ elim (dec_lt (turn i + 1) k) [ yes l ↦ omega (arith, turn_goes i t l) | no l ↦ let g : k ≤ turn i + 1 = omega arith in omega (arith, turn_wraps i t g) ]
    | inr f ↦ omega (arith, turn_stays i f)
  ]

  -- the set that the turn is on, met d positions later, is first met with the turn still on it
  pub awaited : (d i : ℕ) → met (turn i) (d + i) ≡ true → (n : ℕ) × (i ≤ n) × (turn n ≡ turn i) × (met (turn i) n ≡ true)
  awaited zero i h = let e : 0 + i ≡ i = omega arith in (i, omega arith, refl, ap (met (turn i)) (sym e) ∙ h)
  awaited (suc d) i h = elim (cases (met (turn i) i)) [
    | inl t ↦ (i, omega arith, refl, t)
    | inr f ↦
        let s = turn_stays i f in
        let e : d + suc i ≡ suc d + i = omega arith in
        let r = awaited d (suc i) (ap (λ x. met x (d + suc i)) s ∙ ap (met (turn i)) e ∙ h) in
        (r.0, omega (arith, r.1), r.2 ∙ s, ap (λ x. met x r.0) (sym s) ∙ r.3)
  ]

  -- with each set met again and again, the last is met in its turn, which is r sets ahead
  pub arrives : ((j : ℕ) → j < k → (n : ℕ) → (i : ℕ) × (n ≤ i) × (met j i ≡ true)) →
      (r i : ℕ) → turn i + (r + 1) ≡ k → (n : ℕ) × (i ≤ n) × (turn n ≡ k - 1) × (met (k - 1) n ≡ true)
  arrives all zero i e =
      let v = all (turn i) (omega arith) i in
      let d : v.0 ≡ v.0 - i + i = omega (arith, v.1) in
      let a = awaited (v.0 - i) i (ap (met (turn i)) (sym d) ∙ v.2) in
      let f : turn i ≡ k - 1 = omega arith in
      (a.0, a.1, a.2 ∙ f, ap (λ x. met x a.0) (sym f) ∙ a.3)
  arrives all (suc r) i e =
      let v = all (turn i) (omega arith) i in
      let d : v.0 ≡ v.0 - i + i = omega (arith, v.1) in
      let a = awaited (v.0 - i) i (ap (met (turn i)) (sym d) ∙ v.2) in
      let l : turn a.0 + 1 < k = omega (arith, a.2) in
      let g = turn_goes a.0 (ap (λ x. met x a.0) a.2 ∙ a.3) l in
      let b = arrives all r (suc a.0) (omega (arith, g, a.2)) in
      (b.0, omega (arith, a.1, b.1), b.2, b.3)

  -- on the way to a meeting of the last set in its turn, d positions later, each set from the turn on is met
  pub passed : (j : ℕ) → j < k → (d i : ℕ) → turn i ≤ j → turn (d + i) ≡ k - 1 → met (k - 1) (d + i) ≡ true → (n : ℕ) × (i ≤ n) × (met j n ≡ true)
  passed j h zero i l e t =
      let z : 0 + i ≡ i = omega arith in
      let q : k - 1 ≡ j = omega (arith, ap turn z) in
      (0 + i, omega arith, ap (λ x. met x (0 + i)) (sym q) ∙ t)
  passed j h (suc d) i l e t =
      let z : d + suc i ≡ suc d + i = omega arith in
      let on : turn (suc i) ≤ j → (n : ℕ) × (i ≤ n) × (met j n ≡ true) =
      λ u. let r = passed j h d (suc i) u (ap turn z ∙ e) (ap (met (k - 1)) z ∙ t) in (r.0, omega (arith, r.1), r.2) in
      elim (cases (met (turn i) i)) [
        | inl y ↦ elim (dec_lt (turn i) j) [
          | yes u ↦ let v : turn i + 1 < k = omega arith in on (omega (arith, turn_goes i y v))
          | no u ↦ let q : turn i ≡ j = omega arith in (i, omega arith, ap (λ x. met x i) (sym q) ∙ y)
        ]
        | inr f ↦ on (omega (arith, turn_stays i f))
      ]

  -- each set is met again and again where the last is, in its turn
  pub each_met : 0 < k → ((n : ℕ) → (i : ℕ) × (n ≤ i) × (turn i ≡ k - 1) × (met (k - 1) i ≡ true)) →
      (j : ℕ) → j < k → (n : ℕ) → (i : ℕ) × (n ≤ i) × (met j i ≡ true)
  each_met pos last j h n =
      let a = last n in
      let b = last (suc a.0) in
      let d : b.0 ≡ b.0 - suc a.0 + suc a.0 = omega (arith, b.1) in
      let l : k ≤ turn a.0 + 1 = omega (arith, a.2) in
      let z = turn_wraps a.0 (ap (λ x. met x a.0) a.2 ∙ a.3) l in
      let r = passed j h (b.0 - suc a.0) (suc a.0) (omega (arith, z)) (ap turn (sym d) ∙ b.2) (ap (met (k - 1)) (sym d) ∙ b.3) in
      (r.0, omega (arith, a.1, r.1), r.2)

  -- the last set is met again and again in its turn where each set is
  pub is_last_met_lem : 0 < k → turn 0 ≡ 0 → ((j : ℕ) → j < k → (n : ℕ) → (i : ℕ) × (n ≤ i) × (met j i ≡ true)) →
      (n : ℕ) → (i : ℕ) × (n ≤ i) × (turn i ≡ k - 1) × (met (k - 1) i ≡ true)
  is_last_met_lem pos first all n = let l = turn_below pos first n in arrives all (k - 1 - turn n) n (omega arith)
