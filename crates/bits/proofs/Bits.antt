-- The bits of a word, and what putting one more in changes. Assumes nothing.
use Rattle.std.proofs.Common.{◌≡◌, ℕ, ◌+◌, ◌-◌, ◌*◌, ◌/◌, ◌%◌, ◌^◌, ◌<◌, Bool, true, false, cond, eqb, ap, ◌∙◌, arith}
use native.Mathlib.Nat.{div-eq_of_lt, add-mul-div_right, add-mul-mod_self_right, mod-eq_of_lt}
use Rattle.std.proofs.Math.Nat.{zero-mul}
use Rattle.std.specs.Int.{bit_at}
use Rattle.std.specs.Int.Bits.{bit_or}
use Rattle.std.proofs.lemmas.Nat.{pow_pos, pow-add, or_disjoint, pow_below}
use Rattle.std.proofs.lemmas.Nat.Bits.{and_pow}
use Rattle.ltl.specs.Words.{bit}

-- a word below 2 ^ k has no bit k
pub bit_none : (k word : ℕ) → word < 2 ^ k → bit k word ≡ false
bit_none k word h = ap (λ q. eqb (q % 2) 1) (div-eq_of_lt h)

-- the bit that is put in is there
pub bit_put : (k word : ℕ) (b : Bool) → word < 2 ^ k → bit k (word + cond b (2 ^ k) 0) ≡ b
bit_put k word true h =
    let e : word + 2 ^ k ≡ word + 1 * 2 ^ k = omega arith in
    ap (λ q. eqb (q % 2) 1) (ap (λ v. v / 2 ^ k) e ∙ add-mul-div_right word 1 (pow_pos k) ∙ ap (λ q. q + 1) (div-eq_of_lt h))
bit_put k word false h = ap (bit k) (omega arith) ∙ bit_none k word h

-- the bits below stay
pub bit_kept : (m k word : ℕ) (b : Bool) → m < k → bit m (word + cond b (2 ^ k) 0) ≡ bit m word
bit_kept m k word true h =
    let d = k - m - 1 in
    let split : 2 ^ k ≡ (2 ^ d * 2) * 2 ^ m = ap (λ j. 2 ^ j) (omega arith) ∙ pow-add 2 (d + 1) m ∙ ap (λ c. c * 2 ^ m) (pow-add 2 d 1) in
    ap (λ q. eqb (q % 2) 1) (ap (λ c. (word + c) / 2 ^ m) split ∙ add-mul-div_right word (2 ^ d * 2) (pow_pos m))
    ∙ ap (λ q. eqb q 1) (add-mul-mod_self_right (word / 2 ^ m) (2 ^ d) 2)
bit_kept m k word false h = ap (bit m) (omega arith)

-- and no bit comes in above
pub put_below : (k word : ℕ) (b : Bool) → word < 2 ^ k → word + cond b (2 ^ k) 0 < 2 ^ (k + 1)
put_below k word true h = omega (arith, pow-add 2 k 1)
put_below k word false h = omega (arith, pow-add 2 k 1)

-- where a word has only bits below, putting one in adds it, in a word of any width
pub or_put : (k word width : ℕ) → k < width → word < 2 ^ k → bit_or word (1 * 2 ^ k % 2 ^ width) ≡ word + 2 ^ k
or_put k word width fits h =
    let one : 1 * 2 ^ k ≡ 2 ^ k = omega arith in
    let low : 1 * 2 ^ k % 2 ^ width ≡ 2 ^ k = ap (λ v. v % 2 ^ width) one ∙ mod-eq_of_lt (pow_below k width fits) in
    let none : bit_at word k ≡ 0 = ap (λ q. q % 2) (div-eq_of_lt h) in
    ap (bit_or word) low ∙ or_disjoint word (2 ^ k) (and_pow word k ∙ ap (λ b. b * 2 ^ k) none ∙ zero-mul (2 ^ k))
