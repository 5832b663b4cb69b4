-- The letters of a node are those at which it has the value true. Assumes nothing.
use Rattle.std.proofs.Common.{◌≡◌, ℕ, ◌+◌, ◌<◌, Bool, true, false, cond, ◌≢◌, List, length, get_or, set, sym, refl, ap, ◌∙◌, ap₂, arith, below_more}
use lib.Bits.{bit_and, bit_or}
use Rattle.std.proofs.lemmas.List.{get_or-set_same, get_or-set_other}
use Rattle.std.proofs.lemmas.List.Sums.{sum_by_more}
use Rattle.ltl.specs.declared.Node.{Node}
use Rattle.ltl.specs.declared.Node.TheVariants.{True, False, Atom, NotAtom, And, Or, Eventually, Always}
use Rattle.ltl.specs.Words.{bit}
use Rattle.ltl.specs.Arena.{temporal}
use Rattle.ltl.proofs.Meanings.{Fits, Tidy}
use Rattle.bits.proofs.Collected.{gathered_same, gathered_and, gathered_or, gathered_not, gathered_zero, gathered_ones, gathered_at}
use Rattle.forecast.specs.Forecasts.{rank, value_of, values}
use Rattle.forecast.proofs.Values.{value_at}
use Rattle.outlook.specs.declared.deciding.Deciding.{Deciding}
use Rattle.outlook.specs.declared.deciding.Deciding.TheVariants.{Kept, Renewed}
use Rattle.outlook.specs.Letters.{letters_where, how_of, all_letters_if, decided_by, held_by, Told}

-- every letter or none, by a test that does not look at the letter
all_letters_if_where : (b : Bool) → all_letters_if b ≡ letters_where (λ a. b)
all_letters_if_where true = gathered_ones 0 64
all_letters_if_where false = gathered_zero 0 64

module _ (d : Deciding) (J t k : ℕ) (V : ℕ → List Bool) (ws : List ℕ)
    (known : (j : ℕ) → j < k → get_or ws j 0 ≡ letters_where (λ a. get_or (V a) j false)) where
  held_right : (x : Node) → Fits k x → held_by d ws x (bit t J) ≡ letters_where (λ a. value_of (how_of d) a J (V a) t x)
  held_right True f = gathered_ones 0 64
  held_right False f = gathered_zero 0 64
  held_right (Atom b) f = refl
  held_right (NotAtom b) f = gathered_not (bit b) 0 64
  held_right (And i j) f = ap₂ bit_and (known i f.0) (known j f.1) ∙ gathered_and (λ a. get_or (V a) i false) (λ a. get_or (V a) j false) 0 64
  held_right (Or i j) f = ap₂ bit_or (known i f.0) (known j f.1) ∙ gathered_or (λ a. get_or (V a) i false) (λ a. get_or (V a) j false) 0 64
  held_right (Eventually q) f = go d
    where
      go : (e : Deciding) → decided_by e (all_letters_if (bit t J)) (bit_or (get_or ws q 0) (all_letters_if (bit t J))) ≡ letters_where (λ a. how_of e (Eventually q) (get_or (V a) q false) (bit t J))
      go Kept = all_letters_if_where (bit t J)
      go Renewed = ap₂ bit_or (known q f) (all_letters_if_where (bit t J)) ∙ gathered_or (λ a. get_or (V a) q false) (λ a. bit t J) 0 64
  held_right (Always q) f = go d
    where
      go : (e : Deciding) → decided_by e (all_letters_if (bit t J)) (bit_and (get_or ws q 0) (all_letters_if (bit t J))) ≡ letters_where (λ a. how_of e (Always q) (get_or (V a) q false) (bit t J))
      go Kept = all_letters_if_where (bit t J)
      go Renewed = ap₂ bit_and (known q f) (all_letters_if_where (bit t J)) ∙ gathered_and (λ a. get_or (V a) q false) (λ a. bit t J) 0 64

-- one node more
pub held_next : (d : Deciding) (ns : List Node) (J k : ℕ) (ws : List ℕ) → Tidy ns → k < length ns → Told d ns J k ws
    → held_by d ws (get_or ns k True) (bit (rank ns k) J) ≡ letters_where (λ a. get_or (values (how_of d) ns a J) k false)
held_next d ns J k ws tidy l told =
    held_right d J (rank ns k) k (λ a. values (how_of d) ns a J) ws told (get_or ns k True) (tidy k l)
    ∙ gathered_same _ _ 0 64 (λ a h. sym (value_at (how_of d) ns tidy _ J k l))

-- the word of one node more is put in
pub told_more : (d : Deciding) (ns : List Node) (J k : ℕ) (ws : List ℕ) (w : ℕ) → k < length ws → Told d ns J k ws
    → w ≡ letters_where (λ a. get_or (values (how_of d) ns a J) k false) → Told d ns J (k + 1) (set ws k w)
told_more d ns J k ws w l told e =
    below_more _ _ (λ j h. let ne : j ≢ k = omega arith in get_or-set_other ws k j w 0 ne ∙ told j h) (get_or-set_same ws k w 0 l ∙ e)

-- one temporal node more has passed, or none
pub rank_more : (ns : List Node) (k : ℕ) → k < length ns → rank ns (k + 1) ≡ rank ns k + cond (temporal (get_or ns k True)) 1 0
rank_more ns k l = sum_by_more (λ x. cond (temporal x) 1 0) ns k True l

-- the bits of a word that is told are the values
pub told_bit : (d : Deciding) (ns : List Node) (J k m a : ℕ) (ws : List ℕ) → k < m → a < 64 → Told d ns J m ws
    → bit a (get_or ws k 0) ≡ get_or (values (how_of d) ns a J) k false
told_bit d ns J k m a ws l h told = ap (bit a) (told k l) ∙ gathered_at (λ b. get_or (values (how_of d) ns b J) k false) 64 a h
