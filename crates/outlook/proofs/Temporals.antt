-- What the words of a forecast tell of its temporal nodes. Assumes nothing.
use Rattle.std.proofs.Common.{◌≡◌, ℕ, ◌+◌, ◌-◌, ◌^◌, ◌<◌, ◌≤◌, Bool, true, false, cond, not, ◌&&◌, ◌||◌, eqb, ltb, List, length, get_or, sym, refl, ap, ◌∙◌, ap₂, arith}
use lib.Bits.{bit_and, bit_or}
use Rattle.std.proofs.lemmas.Bool.{and_right}
use Rattle.ltl.specs.declared.Node.{Node}
use Rattle.ltl.specs.declared.Node.TheVariants.{True, False, Atom, NotAtom, And, Or, Eventually, Always}
use Rattle.ltl.specs.Words.{bit}
use Rattle.ltl.specs.Arena.{temporal}
use Rattle.ltl.proofs.Meanings.{Fits, Tidy}
use Rattle.bits.proofs.Collected.{gathered_same, gathered_or, gathered_not, gathered_zero}
use Rattle.forecast.specs.Bounded.{some}
use Rattle.forecast.specs.Forecasts.{holds_at}
use Rattle.forecast.specs.Steady.{on_f, on_g, within, each_f, other_f, each_g, other_g, allowed, never_holds, never_fails, visiting}
use Rattle.forecast.proofs.Tests.{some_next, some_bounded, not_all}
use Rattle.forecast.proofs.Values.{holds_temporal}
use Rattle.outlook.specs.declared.deciding.Deciding.TheVariants.{Kept}
use Rattle.outlook.specs.Letters.{letters_where, Told}
use Rattle.outlook.specs.Pairs.{letters_over, others, letters_on_f, letters_on_g, allowed_letters, unmet_by, visited_by}
use Rattle.outlook.proofs.Held.{told_bit}
use Rattle.outlook.proofs.Sets.{apart_right, below_apart}

-- letters that count only under a condition
weighed : (c : Bool) (w : ℕ) (t : ℕ → Bool) → w ≡ letters_where t → cond c w 0 ≡ letters_where (λ a. c && t a)
weighed true w t e = e
weighed false w t e = gathered_zero 0 64

and_never : (b c : Bool) → (b && false) ≡ (c && false)
and_never b c = and_right b false refl ∙ sym (and_right c false refl)

-- what is asked of the part of an F or a G depends on that part alone
module _ (k : ℕ) where
  on_f_letters : (f : ℕ → ℕ) (test : ℕ → ℕ → Bool) (x : Node) → Fits k x → ((q : ℕ) → q < k → f q ≡ letters_where (λ a. test a q))
      → letters_on_f f x ≡ letters_where (λ a. on_f (test a) x)
  on_f_letters f test True s h = gathered_zero 0 64
  on_f_letters f test False s h = gathered_zero 0 64
  on_f_letters f test (Atom b) s h = gathered_zero 0 64
  on_f_letters f test (NotAtom b) s h = gathered_zero 0 64
  on_f_letters f test (And i j) s h = gathered_zero 0 64
  on_f_letters f test (Or i j) s h = gathered_zero 0 64
  on_f_letters f test (Eventually q) s h = h q s
  on_f_letters f test (Always q) s h = gathered_zero 0 64

  on_g_letters : (f : ℕ → ℕ) (test : ℕ → ℕ → Bool) (x : Node) → Fits k x → ((q : ℕ) → q < k → f q ≡ letters_where (λ a. test a q))
      → letters_on_g f x ≡ letters_where (λ a. on_g (test a) x)
  on_g_letters f test True s h = gathered_zero 0 64
  on_g_letters f test False s h = gathered_zero 0 64
  on_g_letters f test (Atom b) s h = gathered_zero 0 64
  on_g_letters f test (NotAtom b) s h = gathered_zero 0 64
  on_g_letters f test (And i j) s h = gathered_zero 0 64
  on_g_letters f test (Or i j) s h = gathered_zero 0 64
  on_g_letters f test (Eventually q) s h = gathered_zero 0 64
  on_g_letters f test (Always q) s h = h q s

  -- and whether the node is within is asked of temporal nodes only
  on_f_swap : (b c : Bool) (t u : ℕ → Bool) (x : Node) → Fits k x → (temporal x ≡ true → b ≡ c) → ((q : ℕ) → q < k → t q ≡ u q) → (b && on_f t x) ≡ (c && on_f u x)
  on_f_swap b c t u True s e h = and_never b c
  on_f_swap b c t u False s e h = and_never b c
  on_f_swap b c t u (Atom a) s e h = and_never b c
  on_f_swap b c t u (NotAtom a) s e h = and_never b c
  on_f_swap b c t u (And i j) s e h = and_never b c
  on_f_swap b c t u (Or i j) s e h = and_never b c
  on_f_swap b c t u (Eventually q) s e h = ap₂ (λ x y. x && y) (e refl) (h q s)
  on_f_swap b c t u (Always q) s e h = and_never b c

  on_g_swap : (b c : Bool) (t u : ℕ → Bool) (x : Node) → Fits k x → (temporal x ≡ true → b ≡ c) → ((q : ℕ) → q < k → t q ≡ u q) → (b && on_g t x) ≡ (c && on_g u x)
  on_g_swap b c t u True s e h = and_never b c
  on_g_swap b c t u False s e h = and_never b c
  on_g_swap b c t u (Atom a) s e h = and_never b c
  on_g_swap b c t u (NotAtom a) s e h = and_never b c
  on_g_swap b c t u (And i j) s e h = and_never b c
  on_g_swap b c t u (Or i j) s e h = and_never b c
  on_g_swap b c t u (Eventually q) s e h = and_never b c
  on_g_swap b c t u (Always q) s e h = ap₂ (λ x y. x && y) (e refl) (h q s)

module _ (ns : List Node) (tidy : Tidy ns) (I : ℕ) (ws : List ℕ) (told : Told Kept ns I (length ns) ws) (k : ℕ) (l : k < length ns) where
  -- a temporal node is within the forecast where its word has letter 0
  inside : temporal (get_or ns k True) ≡ true → bit 0 (get_or ws k 0) ≡ within 0 ns I k
  inside e = told_bit Kept ns I k (length ns) 0 ws l (omega arith) told ∙ holds_temporal ns tidy 0 I k l e

  -- the letters at which a part holds, and those at which it fails
  part_holds : (q : ℕ) → q < k → get_or ws q 0 ≡ letters_where (λ a. holds_at ns a I q)
  part_holds q h = told q (omega arith)

  part_fails : (q : ℕ) → q < k → others (get_or ws q 0) ≡ letters_where (λ a. not (holds_at ns a I q))
  part_fails q h = ap others (part_holds q h) ∙ gathered_not (λ a. holds_at ns a I q) 0 64

  -- one node more that may be broken
  pub breaking_more : (b w : ℕ) → w ≡ cond (bit 0 (get_or ws k 0)) (letters_on_g (λ q. others (get_or ws q 0)) (get_or ns k True)) 0
      → b ≡ letters_where (λ a. some k (each_g 0 ns I (λ q. not (holds_at ns a I q))))
      → bit_or b w ≡ letters_where (λ a. some (k + 1) (each_g 0 ns I (λ q. not (holds_at ns a I q))))
  breaking_more b w e before =
      ap₂ bit_or before (e ∙ weighed (bit 0 (get_or ws k 0)) _ _ (on_g_letters k _ (λ a q. not (holds_at ns a I q)) (get_or ns k True) (tidy k l) part_fails))
      ∙ gathered_or _ _ 0 64
      ∙ gathered_same _ _ 0 64 (λ a h. ap (λ c. some k (each_g 0 ns I (λ q. not (holds_at ns (0 + a) I q))) || c)
      (on_g_swap k (bit 0 (get_or ws k 0)) (within 0 ns I k) _ _ (get_or ns k True) (tidy k l) inside (λ q h. refl)) ∙ sym (some_next k _))

  -- one node more that may be barred
  pub barred_more : (b w : ℕ) → w ≡ cond (not (bit 0 (get_or ws k 0))) (letters_on_f (λ q. get_or ws q 0) (get_or ns k True)) 0
      → b ≡ letters_where (λ a. some k (other_f 0 ns I (λ q. holds_at ns a I q)))
      → bit_or b w ≡ letters_where (λ a. some (k + 1) (other_f 0 ns I (λ q. holds_at ns a I q)))
  barred_more b w e before =
      ap₂ bit_or before (e ∙ weighed (not (bit 0 (get_or ws k 0))) _ _ (on_f_letters k _ (λ a q. holds_at ns a I q) (get_or ns k True) (tidy k l) part_holds))
      ∙ gathered_or _ _ 0 64
      ∙ gathered_same _ _ 0 64 (λ a h. ap (λ c. some k (other_f 0 ns I (λ q. holds_at ns (0 + a) I q)) || c)
      (on_f_swap k (not (bit 0 (get_or ws k 0))) (not (within 0 ns I k)) _ _ (get_or ns k True) (tidy k l) (λ t. ap not (inside t)) (λ q h. refl)) ∙ sym (some_next k _))

  module _ (n : ℕ) (few : 2 ^ n ≤ 64) where
    -- a node that no allowed letter satisfies
    pub unmet_right : unmet_by ws (allowed_letters n ns I) (bit 0 (get_or ws k 0)) (get_or ns k True)
        ≡ (each_f n ns I (never_holds n ns I) k || other_g n ns I (never_fails n ns I) k)
    unmet_right = ap₂ (λ x y. x || y)
        (on_f_swap k _ _ _ _ (get_or ns k True) (tidy k l) inside (λ q h. ap (λ w. eqb (bit_and (allowed_letters n ns I) w) 0) (part_holds q h)
        ∙ below_apart (2 ^ n) few (allowed n ns I) (λ a. holds_at ns a I q)))
        (on_g_swap k _ _ _ _ (get_or ns k True) (tidy k l) (λ t. ap not (inside t)) (λ q h. ap (λ w. eqb (bit_and (allowed_letters n ns I) w) 0) (part_fails q h)
        ∙ below_apart (2 ^ n) few (allowed n ns I) (λ a. not (holds_at ns a I q))))

    -- a node that gives a visit set
    pub visited_right : visited_by ws (letters_over n) (bit 0 (get_or ws k 0)) (get_or ns k True) ≡ visiting n ns I k
    visited_right = on_f_swap k _ _ _ _ (get_or ns k True) (tidy k l) inside (λ q h. ap (λ w. not (eqb (bit_and (letters_over n) w) 0)) (part_fails q h)
        ∙ ap not (apart_right (λ a. ltb a (2 ^ n)) (λ a. not (holds_at ns a I q)))
        ∙ twice (some 64 (λ a. ltb a (2 ^ n) && not (holds_at ns a I q)))
        ∙ ap (λ j. some j (λ a. ltb a (2 ^ n) && not (holds_at ns a I q))) (let z : 64 ≡ 2 ^ n + (64 - 2 ^ n) = omega arith in z)
        ∙ some_bounded (2 ^ n) (64 - 2 ^ n) (λ a. not (holds_at ns a I q)) ∙ sym (not_all (2 ^ n) (λ a. holds_at ns a I q)))
      where
        twice : (b : Bool) → not (not b) ≡ b
        twice true = refl
        twice false = refl
