-- A trail that keeps the states of a sequence in order, turn by turn. Assumes nothing.
use Rattle.std.proofs.Common.{◌≡◌, ℕ, ◌+◌, ◌<◌, ◌≤◌, ◌≢◌, List, length, get_or, set, take, sym, ◌∙◌, subst, arith}
use native.Mathlib.Decide.{dec_lt}
use Rattle.std.proofs.lemmas.List.{get_or_default, get_or-set_same, get_or-set_other, get_or-take, length-set, length-take-le}
use Rattle.acceptor.specs.Walks.{Underway, Closes}

-- one turn: the state at hand is put in its place, and the next one is looked for in the places filled so far
module _ {S : Type 0} (b : ℕ → S) (trail : List S) (d : S) (k : ℕ) {state next : S}
    (fits : k < length trail) (sofar : Underway b trail d k state) (is : next ≡ b (k + 1)) where
  abbrev filled : List S
  filled = take (k + 1) (set trail k state)

  room : k + 1 ≤ length (set trail k state)
  room = omega (arith, length-set trail k state)

  count : length filled ≡ k + 1
  count = length-take-le (k + 1) (set trail k state) room

  kept : (i : ℕ) → i < k + 1 → get_or (set trail k state) i d ≡ b i
  kept i h = elim (dec_lt i k) [
    | yes l ↦ let ne : i ≢ k = omega arith in get_or-set_other trail k i state d ne ∙ sofar.kept i l
    | no l ↦ let same : k ≡ i = omega arith in subst (λ x. get_or (set trail k state) x d ≡ b x) same (get_or-set_same trail k state d fits ∙ sofar.here)
  ]

  read : (i : ℕ) → i < k + 1 → get_or filled i next ≡ b i
  read i h =
      let r = room in
      get_or-take (k + 1) (set trail k state) i next h ∙ get_or_default (set trail k state) i next d (omega arith) ∙ kept i h

  -- where no place has the next state, the walk goes on
  pub underway_more : ((i : ℕ) → i < length (take (k + 1) (set trail k state)) → get_or (take (k + 1) (set trail k state)) i next ≢ next) →
      Underway b (set trail k state) d (k + 1) next
  underway_more none = record {
    here = is;
    kept = kept;
    apart = λ i j l h e. elim (dec_lt j (k + 1)) [
      | yes m ↦ sofar.apart i j l (omega arith) e
      | no m ↦
          let same : j ≡ k + 1 = omega arith in
          let n = count in
          none i (omega arith) (read i (omega arith) ∙ subst (λ x. b i ≡ b x) same e ∙ sym is)
    ];
  }

  -- a place that has it closes the walk
  pub underway_closes : (from : ℕ) → from < length (take (k + 1) (set trail k state)) → get_or (take (k + 1) (set trail k state)) from next ≡ next →
      Closes b (set trail k state) d from (k + 1)
  underway_closes from h e =
      let r = room in
      let n = count in
      let l : from < k + 1 = omega arith in
      record {
        earlier = l;
        fits = r;
        again = sym (read from l) ∙ e ∙ is;
        first = λ i j l m. sofar.apart i j l (omega arith);
        kept = kept from l;
      }
