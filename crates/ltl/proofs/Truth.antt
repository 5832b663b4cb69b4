-- Truth on endless words: position by position, and on words that repeat. Assumes nothing.
use Rattle.std.proofs.Common.{◌≡◌, ℕ, zero, suc, ◌+◌, ◌-◌, ◌*◌, ◌/◌, ◌%◌, ◌<◌, ◌≤◌, max, true, false, ◌⊎◌, ◌↔◌, sym, ap, ◌∙◌, subst, suc-mul, div-add-mod', zero-mul, le-mul_of_pos_right, arith}
use mathlib.Core.Bool.{Bool-discrete}
use mathlib.Core.Logic.Dec
use mathlib.Core.Logic.◌⊎◌.{inl, inr}
use native.Mathlib.Decide.{dec_lt}
use Rattle.ltl.specs.Formula.{Formula}
use Rattle.ltl.specs.Formula.Formula.{top, bottom, atom, negated, both, either, eventually, always}
use Rattle.ltl.specs.Words.{Word, bit, Sat}
use Rattle.ltl.specs.Rounds.{Repeats, Unrolling, Settling}
use Rattle.ltl.proofs.Bounded.{Somewhere, Throughout, some_from, all_from}

-- what is eventual holds here or is eventual at the next position; what lasts holds here and lasts from the next on
pub unrolling : Unrolling
unrolling φ w i = record { eventual = (apart, joined); lasting = (λ s. (s i (omega arith), λ j h. s j (omega arith)), after) }
  where
    apart : Sat (eventually φ) w i → Sat φ w i ⊎ Sat (eventually φ) w (suc i)
    apart s = elim (dec_lt i s.0) [ yes l ↦ inr (s.0, l, s.2) | no l ↦ let e : s.0 ≡ i = omega arith in inl (subst (Sat φ w) e s.2) ]

    joined : Sat φ w i ⊎ Sat (eventually φ) w (suc i) → Sat (eventually φ) w i
    joined (inl s) = (i, omega arith, s)
    joined (inr s) = (s.0, omega arith, s.2)

    after : Sat φ w i × Sat (always φ) w (suc i) → Sat (always φ) w i
    after s j h = elim (dec_lt i j) [ yes l ↦ s.1 j l | no l ↦ let e : i ≡ j = omega arith in subst (Sat φ w) e s.0 ]

-- the word w from i on reads as the word v from j on
abbrev pub Alike : Word → ℕ → Word → ℕ → Type 0
Alike w i v j = (k : ℕ) → w (i + k) ≡ v (j + k)

-- words that read alike have the same letter there
pub alike_here : (w v : Word) (i j : ℕ) → Alike w i v j → w i ≡ v j
alike_here w v i j e = ap w (omega arith) ∙ e 0 ∙ ap v (omega arith)

-- words that read alike do so from every later position on
pub alike_later : (w v : Word) (i j m : ℕ) → i ≤ m → Alike w i v j → Alike w m v (j + (m - i))
alike_later w v i j m h e k = ap w (omega arith) ∙ e ((m - i) + k) ∙ ap v (omega arith)

-- truth depends only on what is read from the position on
pub alike_sat : (φ : Formula ℕ) (w v : Word) (i j : ℕ) → Alike w i v j → Sat φ w i → Sat φ v j
alike_sat top w v i j e s = tt
alike_sat bottom w v i j e s = s
alike_sat (atom k) w v i j e s = subst (λ l. bit k l ≡ true) (alike_here w v i j e) s
alike_sat (negated k) w v i j e s = subst (λ l. bit k l ≡ false) (alike_here w v i j e) s
alike_sat (both φ ψ) w v i j e s = (alike_sat φ w v i j e s.0, alike_sat ψ w v i j e s.1)
alike_sat (either φ ψ) w v i j e (inl s) = inl (alike_sat φ w v i j e s)
alike_sat (either φ ψ) w v i j e (inr s) = inr (alike_sat ψ w v i j e s)
alike_sat (eventually φ) w v i j e s =
    let m = j + (s.0 - i) in
    (m, omega arith, alike_sat φ w v s.0 m (alike_later w v i j s.0 s.1 e) s.2)
alike_sat (always φ) w v i j e s = λ m h.
    let n = i + (m - j) in
    alike_sat φ w v n m (λ k. sym (alike_later v w j i m h (λ l. sym (e l)) k)) (s n (omega arith))

-- a word that repeats does so with every multiple of its period
pub repeat_many : (w : Word) (start period : ℕ) → Repeats w start period → (n : ℕ) → Repeats w start (n * period)
repeat_many w start period r zero i h = ap w (omega (arith, zero-mul period))
repeat_many w start period r (suc n) i h =
    ap w (omega (arith, suc-mul n period)) ∙ r (i + n * period) (omega arith) ∙ repeat_many w start period r n i h

-- truth repeats with the word
pub sat_again : (φ : Formula ℕ) (w : Word) (start period : ℕ) → Repeats w start period → (i : ℕ) → start ≤ i → Sat φ w (i + period) ↔ Sat φ w i
sat_again φ w start period r i h = (alike_sat φ w w (i + period) i e, alike_sat φ w w i (i + period) (λ k. sym (e k)))
  where
    e : Alike w (i + period) w i
    e k = ap w (omega arith) ∙ r (i + k) (omega arith)

module _ (φ : Formula ℕ) (w : Word) (start period : ℕ) (pos : 0 < period) (r : Repeats w start period) where
  -- truth is the same any number of periods later
  pub sat_later : (n k : ℕ) → start ≤ k → Sat φ w (k + n * period) ↔ Sat φ w k
  sat_later n k h = sat_again φ w start (n * period) (repeat_many w start period r n) k h

  -- truth at k is truth at the position of the cycle from base on where k falls
  pub sat_window : (base k : ℕ) → start ≤ base → base ≤ k → Sat φ w k ↔ Sat φ w (base + (k - base) % period)
  sat_window base k h l =
      let j = base + (k - base) % period in
      let n = (k - base) / period in
      let e : j + n * period ≡ k = omega (arith, div-add-mod' (k - base) period) in
      subst (λ x. Sat φ w x ↔ Sat φ w j) e (sat_later n j (omega arith))

  -- what holds at a later position holds somewhere in the cycle from base on
  pub look_ahead : (base k : ℕ) → start ≤ base → base ≤ k → Sat φ w k → Somewhere (Sat φ w) base (base + period)
  look_ahead base k h l s = (base + (k - base) % period, omega arith, omega arith, (sat_window base k h l).0 s)

  -- what holds throughout the cycle from base on holds at every later position
  pub reach_ahead : (base k : ℕ) → start ≤ base → base ≤ k → Throughout (Sat φ w) base (base + period) → Sat φ w k
  reach_ahead base k h l s = (sat_window base k h l).1 (s (base + (k - base) % period) (omega arith) (omega arith))

  -- from the start of the cycle on, a formula is eventual when it holds somewhere in one cycle
  pub settled_eventual : (i : ℕ) → start ≤ i → Sat (eventually φ) w i ↔ Somewhere (Sat φ w) start (start + period)
  settled_eventual i h = (λ s. look_ahead start s.0 (omega arith) (omega arith) s.2, found)
    where
      found : Somewhere (Sat φ w) start (start + period) → Sat (eventually φ) w i
      found f = (f.0 + i * period, omega (arith, le-mul_of_pos_right i pos), (sat_later i f.0 f.1).1 f.3)

  -- from the start of the cycle on, a formula lasts when it holds throughout one cycle
  pub settled_always : (i : ℕ) → start ≤ i → Sat (always φ) w i ↔ Throughout (Sat φ w) start (start + period)
  settled_always i h = (spread, λ s j l. reach_ahead start j (omega arith) (omega arith) s)
    where
      spread : Sat (always φ) w i → Throughout (Sat φ w) start (start + period)
      spread s k l b = (sat_later i k l).0 (s (k + i * period) (omega (arith, le-mul_of_pos_right i pos)))

  -- whether a formula is eventual is decided by a look to the end of one whole cycle
  pub decided_eventual : ((k : ℕ) → Dec (Sat φ w k)) → (i : ℕ) → Dec (Sat (eventually φ) w i)
  decided_eventual d i = go (some_from (Sat φ w) d i (base + period))
    where
      base : ℕ
      base = max i start

      go : Somewhere (Sat φ w) i (base + period) ⊎ Throughout (λ k. ¬ Sat φ w k) i (base + period) → Dec (Sat (eventually φ) w i)
      go (inl f) = yes (f.0, f.1, f.3)
      go (inr none) = no (λ s. elim (dec_lt s.0 base) [
        | yes l ↦ none s.0 s.1 (omega arith) s.2
        | no l ↦ let f = look_ahead base s.0 (omega arith) (omega arith) s.2 in none f.0 (omega arith) f.2 f.3
      ])

  -- and so is whether it lasts
  pub decided_always : ((k : ℕ) → Dec (Sat φ w k)) → (i : ℕ) → Dec (Sat (always φ) w i)
  decided_always d i = go (all_from (Sat φ w) d i (base + period))
    where
      base : ℕ
      base = max i start

      go : Throughout (Sat φ w) i (base + period) ⊎ Somewhere (λ k. ¬ Sat φ w k) i (base + period) → Dec (Sat (always φ) w i)
      go (inr f) = no (λ s. f.3 (s f.0 f.1))
      go (inl all) = yes (λ j h. elim (dec_lt j base) [
        | yes l ↦ all j h (omega arith)
        | no l ↦ reach_ahead base j (omega arith) (omega arith) (λ k a b. all k (omega arith) b)
      ])

-- one of two decided statements is decided
Dec-or : {A B : Type 0} → Dec A → Dec B → Dec (A ⊎ B)
Dec-or (yes a) e = yes (inl a)
Dec-or (no n) (yes b) = yes (inr b)
Dec-or (no n) (no m) = no (elim [ inl a ↦ n a | inr b ↦ m b ])

-- on a word that repeats, truth can be decided at every position
pub sat_decided : (w : Word) (start period : ℕ) → 0 < period → Repeats w start period → (φ : Formula ℕ) (i : ℕ) → Dec (Sat φ w i)
sat_decided w start period pos r top i = yes tt
sat_decided w start period pos r bottom i = no (λ s. s)
sat_decided w start period pos r (atom k) i = Bool-discrete (bit k (w i)) true
sat_decided w start period pos r (negated k) i = Bool-discrete (bit k (w i)) false
sat_decided w start period pos r (both φ ψ) i = Dec.and (sat_decided w start period pos r φ i) (sat_decided w start period pos r ψ i)
sat_decided w start period pos r (either φ ψ) i = Dec-or (sat_decided w start period pos r φ i) (sat_decided w start period pos r ψ i)
sat_decided w start period pos r (eventually φ) i = decided_eventual φ w start period pos r (sat_decided w start period pos r φ) i
sat_decided w start period pos r (always φ) i = decided_always φ w start period pos r (sat_decided w start period pos r φ) i

-- on a word that repeats, truth repeats, is decided, and is the same throughout the cycle for F and G
pub settling : Settling
settling φ w start period pos r = record {
  again = sat_again φ w start period r;
  decided = sat_decided w start period pos r φ;
  eventual = λ i j h l s. (settled_eventual φ w start period pos r j l).1 ((settled_eventual φ w start period pos r i h).0 s);
  lasting = λ i j h l s. (settled_always φ w start period pos r j l).1 ((settled_always φ w start period pos r i h).0 s);
}
