-- What satisfies the rule is accepted by a pair. Assumes nothing.
use Rattle.std.proofs.Common.{◌≡◌, ℕ, zero, suc, ◌-◌, ◌^◌, ◌<◌, ◌≤◌, max, Bool, true, false, not, ◌&&◌, ltb, ◌↔◌, List, length, get_or, Decides, sym, refl, ap, ◌∙◌, subst, arith}
use Rattle.std.proofs.lemmas.Bool.{false≢true, both_ways, not-true, not_from_true, not_from_false, lt-ltb, and_from, and_right, or_from, cond-true}
use Rattle.std.proofs.lemmas.Bool.Decides.{not_from_Decides}
use Rattle.ltl.specs.declared.Node.{Node}
use Rattle.ltl.specs.declared.Node.TheVariants.{True, False, Atom, NotAtom, And, Or, Eventually, Always}
use Rattle.ltl.specs.Formula.{Formula}
use Rattle.ltl.specs.Formula.Formula.{eventually, always}
use Rattle.ltl.specs.Words.{Word, bit, Sat}
use Rattle.ltl.specs.Arena.{first_of, root, temporal, temporals}
use Rattle.ltl.proofs.Meanings.{Tidy}
use Rattle.machine.specs.Runs.{run, Infinitely, AcceptedBy}
use Rattle.forecast.specs.Bounded.{all, nth}
use Rattle.forecast.specs.Forecasts.{rank, holds_at}
use Rattle.forecast.specs.Steady.{each_f, each_g, other_f, other_g, breaks, allowed, never_holds, never_fails, steady, visiting}
use Rattle.forecast.specs.Rules.{States, course_of, pair_count, forecast_of, visit_count, visit_part, machine_of}
use Rattle.forecast.specs.Laws.{Ruled}
use Rattle.forecast.proofs.Tests.{some_from, some_none, nth_found, nth_each}
use Rattle.forecast.proofs.Truths.{Decided, meaning, meaning_of_lem, truth_decides, holds_decides}
use Rattle.forecast.proofs.Truths.{foreseen, foreseen_below, foreseen_f, foreseen_g, foreseen_same}
use Rattle.forecast.proofs.Obliged.{runs, last_letter, has_foreseen}
use Rattle.forecast.proofs.Members.{part_f, part_g, each_f_is, each_g_is, other_f_is, other_g_is}

-- from position L on F and G stay as they are, and what does not last fails at some position
pub record Settled (w : Word) (L : ℕ) : Type 0 where
  pub eventual : (φ : Formula ℕ) (i j : ℕ) → L ≤ i → L ≤ j → Sat (eventually φ) w i → Sat (eventually φ) w j
  pub lasting : (φ : Formula ℕ) (i j : ℕ) → L ≤ i → L ≤ j → Sat (always φ) w i → Sat (always φ) w j
  pub fails : (φ : Formula ℕ) → ¬ Sat (always φ) w L → (j : ℕ) × (L ≤ j) × (¬ Sat φ w j)

-- a test that fails where its fact cannot be
fails_since : {P : Type 0} (b : Bool) → Decides b P → (P → ⊥) → b ≡ false
fails_since true d n = absurd (n (d.0 refl))
fails_since false d n = refl

module _ (w : Word) (decided : Decided w) (ns : List Node) (tidy : Tidy ns) (L : ℕ) (settled : Settled w L) where
  -- from L on the same is foreseen
  pub foreseen_settled : (i : ℕ) → L ≤ i → foreseen w decided ns i ≡ foreseen w decided ns L
  foreseen_settled i h = foreseen_same w decided ns tidy i L (λ k l t. node k l (get_or ns k True) refl t)
    where
      node : (k : ℕ) → k < length ns → (x : Node) → get_or ns k True ≡ x → temporal x ≡ true → Sat (meaning ns k) w i ↔ Sat (meaning ns k) w L
      node k l True e t = absurd (false≢true t)
      node k l False e t = absurd (false≢true t)
      node k l (Atom a) e t = absurd (false≢true t)
      node k l (NotAtom a) e t = absurd (false≢true t)
      node k l (And p q) e t = absurd (false≢true t)
      node k l (Or p q) e t = absurd (false≢true t)
      node k l (Eventually q) e t = subst (λ φ. Sat φ w i ↔ Sat φ w L) (sym (meaning_of_lem w decided ns tidy k (Eventually q) l e))
          (settled.eventual (meaning ns q) i L h (omega arith), settled.eventual (meaning ns q) L i (omega arith) h)
      node k l (Always q) e t = subst (λ φ. Sat φ w i ↔ Sat φ w L) (sym (meaning_of_lem w decided ns tidy k (Always q) l e))
          (settled.lasting (meaning ns q) i L h (omega arith), settled.lasting (meaning ns q) L i (omega arith) h)

-- where I is what is foreseen from L on
module _ (n : ℕ) (ns : List Node) (w : Word) (letters : (i : ℕ) → w i < 2 ^ n) (decided : Decided w) (tidy : Tidy ns) (L : ℕ) (settled : Settled w L)
    (I : ℕ) (same : (i : ℕ) → L ≤ i → foreseen w decided ns i ≡ I) where
  -- what holds at a letter and I is true there
  holds_i : (i k : ℕ) → L ≤ i → k < length ns → Decides (holds_at ns (w i) I k) (Sat (meaning ns k) w i)
  holds_i i k h l = subst (λ J. Decides (holds_at ns (w i) J k) (Sat (meaning ns k) w i)) (same i h) (holds_decides w decided ns tidy i k l)

  -- the bit of F q in I decides it at every later position
  F-I : (i k q : ℕ) → L ≤ i → k < length ns → get_or ns k True ≡ Eventually q → Decides (bit (rank ns k) I) (Sat (eventually (meaning ns q)) w i)
  F-I i k q h l e = subst (λ J. Decides (bit (rank ns k) J) (Sat (eventually (meaning ns q)) w i)) (same i h) (foreseen_f w decided ns tidy i k q l e)

  -- and so does that of G q
  G-I : (i k q : ℕ) → L ≤ i → k < length ns → get_or ns k True ≡ Always q → Decides (bit (rank ns k) I) (Sat (always (meaning ns q)) w i)
  G-I i k q h l e = subst (λ J. Decides (bit (rank ns k) J) (Sat (always (meaning ns q)) w i)) (same i h) (foreseen_g w decided ns tidy i k q l e)

  -- no letter from L on breaks I
  unbroken : (i : ℕ) → L ≤ i → breaks n ns I (w i) ≡ false
  unbroken i h = some_none (length ns) (each_g n ns I (λ q. not (holds_at ns (w i) I q))) (λ k l e.
      let g = each_g_is n ns I (λ q. not (holds_at ns (w i) I q)) k e in
      let b : g.0 < k = part_g ns tidy k g.0 l g.1 in
      both_ways (holds_at ns (w i) I g.0) (not-true _ g.3) ((holds_i i g.0 h (omega arith)).1 ((G-I i k g.0 h l g.1).0 g.2 i (omega arith))))

  -- each is allowed for I
  allowed_i : (i : ℕ) → L ≤ i → allowed n ns I (w i) ≡ true
  allowed_i i h = and_from _ _ (not_from_false _ (unbroken i h)) (not_from_false _ (some_none (length ns) (other_f n ns I (λ q. holds_at ns (w i) I q)) (λ k l e.
      let g = other_f_is n ns I (λ q. holds_at ns (w i) I q) k e in
      let b : g.0 < k = part_f ns tidy k g.0 l g.1 in
      both_ways (bit (rank ns k) I) g.2 ((F-I i k g.0 h l g.1).1 (i, omega arith, (holds_i i g.0 h (omega arith)).0 g.3)))))

  -- so I is steady
  pub steady_i : steady n ns I ≡ true
  steady_i = and_from _ _ (some_from (2 ^ n) (allowed n ns I) (w L) (letters L) (allowed_i L (omega arith)))
      (and_from _ _ (not_from_false _ (some_none (length ns) (each_f n ns I (never_holds n ns I)) eventual))
      (not_from_false _ (some_none (length ns) (other_g n ns I (never_fails n ns I)) lasting)))
    where
      eventual : (k : ℕ) → k < length ns → each_f n ns I (never_holds n ns I) k ≡ true → ⊥
      eventual k l e =
          let g = each_f_is n ns I (never_holds n ns I) k e in
          let q = g.0 in
          let b : q < k = part_f ns tidy k q l g.1 in
          let s = (F-I L k q (omega arith) l g.1).0 g.2 in
          both_ways _ (not-true _ g.3) (some_from (2 ^ n) (λ a. allowed n ns I a && holds_at ns a I q) (w s.0) (letters s.0)
          (and_from _ _ (allowed_i s.0 s.1) ((holds_i s.0 q s.1 (omega arith)).1 s.2)))

      lasting : (k : ℕ) → k < length ns → other_g n ns I (never_fails n ns I) k ≡ true → ⊥
      lasting k l e =
          let g = other_g_is n ns I (never_fails n ns I) k e in
          let q = g.0 in
          let b : q < k = part_g ns tidy k q l g.1 in
          let s = settled.fails (meaning ns q) (not_from_Decides _ (G-I L k q (omega arith) l g.1) g.2) in
          both_ways _ (not-true _ g.3) (some_from (2 ^ n) (λ a. allowed n ns I a && not (holds_at ns a I q)) (w s.0) (letters s.0)
          (and_from _ _ (allowed_i s.0 s.1) (not_from_false _ (fails_since _ (holds_i s.0 q s.1 (omega arith)) s.2))))

-- where I is the forecast of pair p
module _ {S : Type 0} (states : States S) (n : ℕ) (ns : List Node) (ruled : Ruled n ns) (w : Word) (letters : (i : ℕ) → w i < 2 ^ n)
    (decided : Decided w) (tidy : Tidy ns) (L : ℕ) (settled : Settled w L) (true-first : Sat (root ns) w 0) (p : ℕ) (counted : p < pair_count states n ns)
    (same : (i : ℕ) → L ≤ i → foreseen w decided ns i ≡ forecast_of states n ns p) where
  -- the state after i letters
  abbrev at : ℕ → S
  at i = run (course_of states n ns) w i

  -- the pair's forecast
  abbrev I : ℕ
  I = forecast_of states n ns p

  -- from L on the obligation has I
  has_i : (m : ℕ) → L ≤ m → states.has (at (suc m)) I ≡ true
  has_i m h =
      let some : 0 < length ns = ruled.some in
      ap (λ J. states.has (at (suc m)) J) (sym (same (suc m) (omega arith))) ∙ has_foreseen states n ns ruled w letters decided tidy m
      ∙ (truth_decides w decided ns tidy 0 (length ns - 1) (omega arith)).1 true-first

  -- and the avoid set is not met
  unmet : (i : ℕ) → suc L ≤ i → (machine_of states n ns).pairs.avoids p (at i) ≡ false
  unmet zero h = let z : ⊥ = omega arith in absurd z
  unmet (suc m) h =
      let l : L ≤ m = omega arith in
      and_right (ltb p (pair_count states n ns)) _ (and_right (not (states.starting (at (suc m)))) _ (or_from _ _ (not_from_true _ (has_i m l))
      (subst (λ a. breaks n ns I a ≡ false) (sym (last_letter states n ns ruled w letters m)) (unbroken n ns w letters decided tidy L settled I same m l))))

  -- each visit set is met again and again
  visited : (j : ℕ) → j < visit_count states n ns p → Infinitely ((machine_of states n ns).pairs.visited p j) (run (course_of states n ns) w)
  visited j l M =
      let found = nth_found (length ns) (visiting n ns I) j l in
      let k = nth (length ns) (visiting n ns I) j in
      let g = each_f_is n ns I (λ q. not (all (2 ^ n) (λ a. holds_at ns a I q))) k found.1 in
      let q = g.0 in
      let b : q < k = part_f ns tidy k q found.0 g.1 in
      let from : L ≤ max L M = omega arith in
      let s = (F-I n ns w letters decided tidy L settled I same (max L M) k q from found.0 g.1).0 g.2 in
      let m = s.0 in
      let h : holds_at ns (w m) I q ≡ true = (holds_i n ns w letters decided tidy L settled I same m q (omega arith) (omega arith)).1 s.2 in (
        suc m,
        omega arith,
        and_from _ _ (lt-ltb p _ counted) (and_from _ _ (lt-ltb j _ l) (and_from _ _ (not_from_false _ (runs states n ns ruled w letters m))
            (subst (λ a. holds_at ns a I (visit_part states n ns p j) ≡ true) (sym (last_letter states n ns ruled w letters m))
            (subst (λ x. holds_at ns (w m) I x ≡ true) (sym (ap first_of g.1)) h)))),
      )

  -- so the pair accepts
  accepts : AcceptedBy (machine_of states n ns) w p
  accepts = record {
    pair = counted;
    avoids = (suc L, unmet);
    visits = λ j l. visited j (subst (λ x. j < x) (cond-true _ _ _ (lt-ltb p _ counted)) l);
  }

-- a word that satisfies the rule and settles is accepted by the pair of what is foreseen at last
pub true_accepted : {S : Type 0} (states : States S) (n : ℕ) (ns : List Node) → Ruled n ns → (w : Word) → ((i : ℕ) → w i < 2 ^ n) → Decided w → Tidy ns
    → (L : ℕ) → Settled w L → Sat (root ns) w 0 → (p : ℕ) × AcceptedBy (machine_of states n ns) w p
true_accepted states n ns ruled w letters decided tidy L settled s =
    let same = foreseen_settled w decided ns tidy L settled in
    let f = nth_each (2 ^ temporals ns) (steady n ns) (foreseen w decided ns L) (foreseen_below w decided ns tidy L)
    (steady_i n ns w letters decided tidy L settled (foreseen w decided ns L) same) in
    (f.0, accepts states n ns ruled w letters decided tidy L settled s f.0 f.1 (λ i h. same i h ∙ sym f.2))
