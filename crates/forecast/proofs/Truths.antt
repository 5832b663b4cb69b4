-- The forecast of what is true at a position of a word. Assumes nothing.
use Rattle.std.proofs.Common.{◌≡◌, ℕ, suc, ◌^◌, ◌<◌, Bool, true, false, eqb, ◌↔◌, List, map, length, get_or, Decides, sym, refl, ap, ◌∙◌, subst, arith}
use Rattle.std.proofs.lemmas.Bool.{false≢true, not-true, not_from_false, eq-eqb}
use Rattle.std.proofs.lemmas.List.{length-map, get_or-map}
use Rattle.std.proofs.lemmas.Bool.Decides.{same_from_decides, Decides-at, Decides-like, Decides-and, Decides-or}
use Rattle.ltl.specs.declared.Node.{Node}
use Rattle.ltl.specs.declared.Node.TheVariants.{True, False, Atom, NotAtom, And, Or, Eventually, Always}
use Rattle.ltl.specs.Formula.{Formula}
use Rattle.ltl.specs.Formula.Formula.{bottom, eventually, always}
use Rattle.ltl.specs.Words.{Word, bit, Sat}
use Rattle.ltl.specs.Arena.{meaning_of, meanings, temporal, temporals}
use Rattle.ltl.proofs.Meanings.{Fits, Tidy, length_meanings, mean_at}
use Rattle.ltl.proofs.Truth.{unrolling}
use Rattle.forecast.specs.Forecasts.{rank, kept, renewed, value_of, values, holds_at, gather, recast, possible}
use Rattle.forecast.proofs.Tests.{some_from}
use Rattle.forecast.proofs.Bits.{gather_bit, gather_below, gather_same}
use Rattle.forecast.proofs.Values.{value_unique}

-- truth on a word can be decided
abbrev pub Decided : Word → Type 0
Decided w = (φ : Formula ℕ) (i : ℕ) → Dec (Sat φ w i)

-- what node k spells
abbrev pub meaning : List Node → ℕ → Formula ℕ
meaning ns k = get_or (meanings ns) k bottom

-- a decision as a test
tested : {P : Type 0} → Dec P → Bool
tested (yes p) = true
tested (no n) = false

-- and it tests what is decided
tested_decides : {P : Type 0} (d : Dec P) → Decides (tested d) P
unfolding tested
tested_decides (yes p) = (λ e. p, λ p. refl)
tested_decides (no n) = (λ e. absurd (false≢true e), λ p. absurd (n p))

-- equal formulae are decided by the same test
decides_formula : (w : Word) (i : ℕ) (b : Bool) (φ ψ : Formula ℕ) → φ ≡ ψ → Decides b (Sat φ w i) → Decides b (Sat ψ w i)
decides_formula w i b φ ψ e d = subst (λ χ. Decides b (Sat χ w i)) e d

-- whether each node is true at position i
pub truths : (w : Word) → Decided w → List Node → ℕ → List Bool
truths w decided ns i = map (λ φ. tested (decided φ i)) (meanings ns)

-- the forecast of what is true at position i
pub foreseen : (w : Word) → Decided w → List Node → ℕ → ℕ
foreseen w decided ns i = gather 0 ns (truths w decided ns i)

module _ (w : Word) (decided : Decided w) (ns : List Node) (tidy : Tidy ns) where
  -- each node has a truth
  pub length_truths : (i : ℕ) → length (truths w decided ns i) ≡ length ns
  unfolding truths
  length_truths i = length-map (meanings ns) (λ φ. tested (decided φ i)) ∙ length_meanings ns

  -- a node's truth is that of what it spells
  pub truth_decides : (i k : ℕ) → k < length ns → Decides (get_or (truths w decided ns i) k false) (Sat (meaning ns k) w i)
  unfolding truths
  truth_decides i k l =
      Decides-at _ _ (get_or-map (λ φ. tested (decided φ i)) (meanings ns) k bottom false (omega (arith, length_meanings ns)))
      (tested_decides (decided (meaning ns k) i))

  -- a node spells what it says of its parts
  pub meaning_of_lem : (k : ℕ) (x : Node) → k < length ns → get_or ns k True ≡ x → meaning ns k ≡ meaning_of (meanings ns) x
  meaning_of_lem k x l e = mean_at ns k l (tidy k l) ∙ ap (meaning_of (meanings ns)) e

  -- the bit of a temporal node in the forecast is its truth
  pub foreseen_bit : (i k : ℕ) → k < length ns → temporal (get_or ns k True) ≡ true
      → bit (rank ns k) (foreseen w decided ns i) ≡ get_or (truths w decided ns i) k false
  unfolding foreseen
  foreseen_bit i k l t = gather_bit ns (truths w decided ns i) k (length_truths i) l t

  -- so it decides what the node spells
  pub foreseen_decides : (i k : ℕ) → k < length ns → temporal (get_or ns k True) ≡ true
      → Decides (bit (rank ns k) (foreseen w decided ns i)) (Sat (meaning ns k) w i)
  foreseen_decides i k l t = Decides-at _ _ (foreseen_bit i k l t) (truth_decides i k l)

  -- the forecast has no bits beyond those of the temporal nodes
  pub foreseen_below : (i : ℕ) → foreseen w decided ns i < 2 ^ temporals ns
  unfolding foreseen
  foreseen_below i = gather_below ns (truths w decided ns i)

  -- where the bits of J decide F and G, the truths are the values at the letter and J
  solved : (how : Node → Bool → Bool → Bool) (i J : ℕ)
      → ((k q : ℕ) → k < length ns → q < k → get_or ns k True ≡ Eventually q
      → Decides (how (Eventually q) (get_or (truths w decided ns i) q false) (bit (rank ns k) J)) (Sat (eventually (meaning ns q)) w i))
      → ((k q : ℕ) → k < length ns → q < k → get_or ns k True ≡ Always q
      → Decides (how (Always q) (get_or (truths w decided ns i) q false) (bit (rank ns k) J)) (Sat (always (meaning ns q)) w i))
      → values how ns (w i) J ≡ truths w decided ns i
  solved how i J on_f on_g =
      value_unique how ns tidy (w i) J (truths w decided ns i) (length_truths i)
      (λ k l. same_from_decides _ _ (truth_decides i k l)
      (decides_formula w i _ _ _ (sym (meaning_of_lem k (get_or ns k True) l refl)) (node k l (get_or ns k True) refl (tidy k l))))
    where
      node : (k : ℕ) → k < length ns → (x : Node) → get_or ns k True ≡ x → Fits k x
          → Decides (value_of how (w i) J (truths w decided ns i) (rank ns k) x) (Sat (meaning_of (meanings ns) x) w i)
      node k l True e f = (λ h. tt, λ s. refl)
      node k l False e f = (λ h. absurd (false≢true h), λ s. absurd s)
      node k l (Atom b) e f = (λ h. h, λ s. s)
      node k l (NotAtom b) e f = (not-true _, not_from_false _)
      node k l (And p q) e f = Decides-and _ _ (truth_decides i p (omega arith)) (truth_decides i q (omega arith))
      node k l (Or p q) e f = Decides-or _ _ (truth_decides i p (omega arith)) (truth_decides i q (omega arith))
      node k l (Eventually q) e f = on_f k q l f e
      node k l (Always q) e f = on_g k q l f e

  -- the bit of F q decides it
  pub foreseen_f : (i k q : ℕ) → k < length ns → get_or ns k True ≡ Eventually q
      → Decides (bit (rank ns k) (foreseen w decided ns i)) (Sat (eventually (meaning ns q)) w i)
  foreseen_f i k q l e = decides_formula w i _ _ _ (meaning_of_lem k (Eventually q) l e) (foreseen_decides i k l (ap temporal e))

  -- the bit of G q decides it
  pub foreseen_g : (i k q : ℕ) → k < length ns → get_or ns k True ≡ Always q
      → Decides (bit (rank ns k) (foreseen w decided ns i)) (Sat (always (meaning ns q)) w i)
  foreseen_g i k q l e = decides_formula w i _ _ _ (meaning_of_lem k (Always q) l e) (foreseen_decides i k l (ap temporal e))

  -- what holds at a letter and what is foreseen there is what is true there
  pub kept_truths : (i : ℕ) → values kept ns (w i) (foreseen w decided ns i) ≡ truths w decided ns i
  kept_truths i = solved kept i (foreseen w decided ns i) (λ k q l b e. foreseen_f i k q l e) (λ k q l b e. foreseen_g i k q l e)

  -- what is foreseen at the next position, decided anew, is what is true here
  renewed_truths : (i : ℕ) → values renewed ns (w i) (foreseen w decided ns (suc i)) ≡ truths w decided ns i
  renewed_truths i = solved renewed i (foreseen w decided ns (suc i))
      (λ k q l b e. let u = (unrolling (meaning ns q) w i).eventual in
      Decides-like _ u.1 u.0 (Decides-or _ _ (truth_decides i q (omega arith)) (foreseen_f (suc i) k q l e)))
      (λ k q l b e. let u = (unrolling (meaning ns q) w i).lasting in
      Decides-like _ u.1 u.0 (Decides-and _ _ (truth_decides i q (omega arith)) (foreseen_g (suc i) k q l e)))

  -- the recast of what is foreseen at the next position is what is foreseen here
  pub recast_foreseen : (i : ℕ) → recast ns (w i) (foreseen w decided ns (suc i)) ≡ foreseen w decided ns i
  unfolding foreseen
  recast_foreseen i = ap (gather 0 ns) (renewed_truths i)

  -- what holds at a letter and its forecast is true there
  pub holds_decides : (i k : ℕ) → k < length ns → Decides (holds_at ns (w i) (foreseen w decided ns i) k) (Sat (meaning ns k) w i)
  holds_decides i k l = Decides-at _ _ (ap (λ vs. get_or vs k false) (kept_truths i)) (truth_decides i k l)

  -- positions with the same F and G have the same forecast
  pub foreseen_same : (i j : ℕ) → ((k : ℕ) → k < length ns → temporal (get_or ns k True) ≡ true → Sat (meaning ns k) w i ↔ Sat (meaning ns k) w j)
      → foreseen w decided ns i ≡ foreseen w decided ns j
  unfolding foreseen
  foreseen_same i j h = gather_same ns (truths w decided ns i) (truths w decided ns j) (length_truths i) (length_truths j)
      (λ k l t. same_from_decides _ _ (Decides-like _ (h k l t).0 (h k l t).1 (truth_decides i k l)) (truth_decides j k l))

-- a recast is possible
pub recast_possible : (n : ℕ) (ns : List Node) (a J : ℕ) → a < 2 ^ n → J < 2 ^ temporals ns → possible n ns (recast ns a J) ≡ true
recast_possible n ns a J l h =
    some_from (2 ^ temporals ns) _ J h (some_from (2 ^ n) (λ b. eqb (recast ns b J) (recast ns a J)) a l (eq-eqb (recast ns a J) _ refl))
