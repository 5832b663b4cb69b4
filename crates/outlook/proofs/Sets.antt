-- Sets of letters as words: all of them, none of them, and those that a node gives. Assumes nothing.
use Rattle.std.proofs.Common.{◌≡◌, ℕ, ◌+◌, ◌-◌, ◌*◌, ◌/◌, ◌^◌, ◌<◌, ◌≤◌, Bool, true, false, not, ◌&&◌, eqb, ltb, sym, refl, ap, ◌∙◌, inl, inr, add-mul, arith}
use lib.Bits.{bit_and}
use Rattle.std.proofs.lemmas.Bool.{false≢true, both_ways, cases_Bool, eq-eqb, ne_eqb, lt-ltb, le-ltb}
use Rattle.std.proofs.lemmas.Nat.{pow_pos, pow-add, div-mul-add}
use Rattle.ltl.specs.Words.{bit}
use Rattle.bits.specs.Gathered.{gathered}
use Rattle.bits.proofs.Bits.{bit_none}
use Rattle.bits.proofs.Collected.{gathered_same, gathered_past, gathered_and, gathered_zero, gathered_ones, gathered_at}
use Rattle.forecast.specs.Bounded.{some}
use Rattle.forecast.proofs.Tests.{some_found, some_from, some_same, some_bounded}
use Rattle.outlook.specs.Letters.{letters_where}

-- the first m letters, by a shift
pub every_right : (m : ℕ) → m ≤ 64 → (2 ^ 64 - 1) / 2 ^ (64 - m) ≡ letters_where (λ a. ltb a m)
every_right m l =
    ap (λ x. x / d) whole ∙ div-mul-add (2 ^ m - 1) d (d - 1) (omega (arith, pow_pos (64 - m)))
    ∙ gathered_ones 0 m
    ∙ gathered_same (λ _. true) (λ a. ltb a m) 0 m (λ k h. sym (lt-ltb (0 + k) m (omega arith)))
    ∙ sym (gathered_past (λ a. ltb a m) 0 m (64 - m) (λ k h. le-ltb (0 + k) m (omega arith)))
    ∙ ap (λ j. letters_up_to j) (let z : m + (64 - m) ≡ 64 = omega arith in z)
  where
    d : ℕ
    d = 2 ^ (64 - m)

    letters_up_to : ℕ → ℕ
    letters_up_to j = gathered (λ a. ltb a m) 0 j

    whole : 2 ^ 64 - 1 ≡ (2 ^ m - 1) * d + (d - 1)
    whole =
        let p : 2 ^ 64 ≡ 2 ^ m * d = ap (λ j. 2 ^ j) (let z : 64 ≡ m + (64 - m) = omega arith in z) ∙ pow-add 2 m (64 - m) in
        let q : 2 ^ m ≡ (2 ^ m - 1) + 1 = omega (arith, pow_pos m) in
        let r : 2 ^ m * d ≡ (2 ^ m - 1) * d + 1 * d = ap (λ x. x * d) q ∙ add-mul (2 ^ m - 1) 1 d in
        omega (arith, p, r, pow_pos (64 - m))

-- a set is empty where its test passes at no letter
pub empty_right : (f : ℕ → Bool) → eqb (letters_where f) 0 ≡ not (some 64 f)
empty_right f = elim (cases_Bool (some 64 f)) [
  | inl e ↦
      let s = some_found 64 f e in
      ne_eqb (letters_where f) 0 (λ z. both_ways (f s.0) (sym (gathered_at f 64 s.0 s.1) ∙ ap (bit s.0) z ∙ bit_none s.0 0 (pow_pos s.0)) s.2)
      ∙ sym (ap not e)
  | inr e ↦
      eq-eqb (letters_where f) 0 (gathered_same f (λ _. false) 0 64 (λ k l. fails e (0 + k) (omega arith)) ∙ sym (gathered_zero 0 64))
      ∙ sym (ap not e)
]
  where
    fails : some 64 f ≡ false → (k : ℕ) → k < 64 → f k ≡ false
    fails e k l = elim (cases_Bool (f k)) [ inl t ↦ absurd (false≢true (sym e ∙ some_from 64 f k l t)) | inr t ↦ t ]

-- two sets have no letter in common
pub apart_right : (f g : ℕ → Bool) → eqb (bit_and (letters_where f) (letters_where g)) 0 ≡ not (some 64 (λ a. f a && g a))
apart_right f g = ap (λ x. eqb x 0) (gathered_and f g 0 64) ∙ empty_right (λ a. f a && g a)

-- the same where the first has letters below m only
pub below_apart : (m : ℕ) → m ≤ 64 → (f g : ℕ → Bool) → eqb (bit_and (letters_where (λ a. ltb a m && f a)) (letters_where g)) 0 ≡ not (some m (λ a. f a && g a))
below_apart m l f g =
    apart_right (λ a. ltb a m && f a) g
    ∙ ap not (some_same 64 _ (λ a. ltb a m && (f a && g a)) (λ a h. and_assoc (ltb a m) (f a) (g a))
    ∙ ap (λ j. some j (λ a. ltb a m && (f a && g a))) (let z : 64 ≡ m + (64 - m) = omega arith in z) ∙ some_bounded m (64 - m) (λ a. f a && g a))
  where
    and_assoc : (x y z : Bool) → ((x && y) && z) ≡ (x && (y && z))
    and_assoc true y z = refl
    and_assoc false y z = refl
