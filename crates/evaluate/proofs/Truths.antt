-- What the bits of a row tell of a round's word. Assumes nothing.
use Rattle.std.proofs.Common.{◌≡◌, ℕ, zero, suc, ◌+◌, ◌-◌, ◌^◌, ◌<◌, ◌≤◌, Bool, true, cond, ◌&&◌, ◌||◌, ◌++◌, List, map, length, get_or, Decides, sym, refl, ap, ◌∙◌, subst, inl, inr, add-one, arith, length-append}
use Rattle.std.proofs.lemmas.Bool.{cases_lt, cases_eq, true≢false, not-true, not_from_false}
use Rattle.std.proofs.lemmas.Bool.Decides.{Decides-and, Decides-or, Decides-like, Decides-at}
use Rattle.std.proofs.lemmas.List.{get_or_append_left, get_or-append_right, get_or-map, get_or_past, length-map}
use Rattle.ltl.specs.declared.Node.{Node}
use Rattle.ltl.specs.declared.Node.TheVariants.{True, False, Atom, NotAtom, And, Or, Eventually, Always}
use Rattle.ltl.specs.Formula.{Formula}
use Rattle.ltl.specs.Formula.Formula.{bottom, eventually, always}
use Rattle.ltl.specs.Words.{Word, bit, Sat}
use Rattle.ltl.specs.Rounds.{spelling}
use Rattle.ltl.specs.Arena.{meaning_of, meanings}
use Rattle.ltl.proofs.Truth.{unrolling, settled_eventual, settled_always}
use Rattle.ltl.proofs.Bounded.{Somewhere, Throughout}
use Rattle.ltl.proofs.RoundWords.{spelling_lead, spelling_cycle, rounds_repeat}
use Rattle.ltl.proofs.Meanings.{Fits, mean_at}
use Rattle.bits.proofs.Bits.{bit_put, bit_kept, put_below}
use Rattle.evaluate.specs.Marks.{value, Settled, Cycled, Led, Told}
use Rattle.evaluate.proofs.Marking.{bit_at}

-- next says whether an F or a G holds at the position behind i
abbrev Tells : List (Formula ℕ) → Node → Word → ℕ → Bool → Type 0
Tells known True w i next = Unit {0}
Tells known False w i next = Unit {0}
Tells known (Atom a) w i next = Unit {0}
Tells known (NotAtom a) w i next = Unit {0}
Tells known (And a b) w i next = Unit {0}
Tells known (Or a b) w i next = Unit {0}
Tells known (Eventually a) w i next = Decides next (Sat (eventually (get_or known a bottom)) w (suc i))
Tells known (Always a) w i next = Decides next (Sat (always (get_or known a bottom)) w (suc i))

-- what is said of any node is said of an F or a G
any_tells : (known : List (Formula ℕ)) (node : Node) (w : Word) (i : ℕ) (next : Bool)
    → Decides next (Sat (meaning_of known node) w (suc i)) → Tells known node w i next
any_tells known True w i next d = tt
any_tells known False w i next d = tt
any_tells known (Atom a) w i next d = tt
any_tells known (NotAtom a) w i next d = tt
any_tells known (And a b) w i next d = tt
any_tells known (Or a b) w i next d = tt
any_tells known (Eventually a) w i next d = d
any_tells known (Always a) w i next d = d

-- the bits below k say what holds at i
abbrev Parts : List (Formula ℕ) → ℕ → Word → ℕ → ℕ → Type 0
Parts known k w i word = (m : ℕ) → m < k → Decides (bit m word) (Sat (get_or known m bottom) w i)

-- a node's value is its truth
value_right : (known : List (Formula ℕ)) (k : ℕ) (node : Node) (w : Word) (i letter word : ℕ) (next : Bool)
    → Fits k node → w i ≡ letter → Parts known k w i word → Tells known node w i next
    → Decides (value node letter word next) (Sat (meaning_of known node) w i)
value_right known k True w i letter word next f e p t = (λ _. tt, λ _. refl)
value_right known k False w i letter word next f e p t = (λ x. absurd (true≢false (sym x)), λ s. absurd s)
value_right known k (Atom a) w i letter word next f e p t = (λ x. ap (bit a) e ∙ x, λ s. ap (bit a) (sym e) ∙ s)
value_right known k (NotAtom a) w i letter word next f e p t =
    (λ x. ap (bit a) e ∙ not-true (bit a letter) x, λ s. not_from_false (bit a letter) (ap (bit a) (sym e) ∙ s))
value_right known k (And a b) w i letter word next f e p t = Decides-and (bit a word) (bit b word) (p a f.0) (p b f.1)
value_right known k (Or a b) w i letter word next f e p t = Decides-or (bit a word) (bit b word) (p a f.0) (p b f.1)
value_right known k (Eventually a) w i letter word next f e p t =
    let u = (unrolling (get_or known a bottom) w i).eventual in
    Decides-like (bit a word || next) u.1 u.0 (Decides-or (bit a word) next (p a f) t)
value_right known k (Always a) w i letter word next f e p t =
    let u = (unrolling (get_or known a bottom) w i).lasting in
    Decides-like (bit a word && next) u.1 u.0 (Decides-and (bit a word) next (p a f) t)

-- one look over the cycle's words tells of every position behind one in the cycle
settled_tells : (known : List (Formula ℕ)) (k : ℕ) (node : Node) (lead cycle words : List ℕ) (b : Bool) → 0 < length cycle → Fits k node
    → length words ≡ length cycle → ((j : ℕ) → j < length cycle → Parts known k (spelling lead cycle) (length lead + j) (get_or words j 0))
    → Settled node words b → (i : ℕ) → length lead ≤ i → Tells known node (spelling lead cycle) i b
settled_tells known k True lead cycle words b pos f z p s i h = tt
settled_tells known k False lead cycle words b pos f z p s i h = tt
settled_tells known k (Atom a) lead cycle words b pos f z p s i h = tt
settled_tells known k (NotAtom a) lead cycle words b pos f z p s i h = tt
settled_tells known k (And a c) lead cycle words b pos f z p s i h = tt
settled_tells known k (Or a c) lead cycle words b pos f z p s i h = tt
settled_tells known k (Eventually a) lead cycle words b pos f z p s i h =
    let w = spelling lead cycle in
    let φ = get_or known a bottom in
    let n = length lead in
    let e = settled_eventual φ w n (length cycle) pos (rounds_repeat lead cycle pos) (suc i) (omega arith) in
    let here : (j : ℕ) × (j < length words) × (bit a (get_or words j 0) ≡ true) → Somewhere (Sat φ w) n (n + length cycle) =
    λ q. (n + q.0, omega arith, omega (arith, q.1), (p q.0 (omega (arith, q.1)) a f).0 q.2) in
    let back : Somewhere (Sat φ w) n (n + length cycle) → (j : ℕ) × (j < length words) × (bit a (get_or words j 0) ≡ true) =
    λ x.
    let j = x.0 - n in
    let at : x.0 ≡ n + j = omega (arith, x.1) in
    (j, omega (arith, x.1, x.2), (p j (omega (arith, x.1, x.2)) a f).1 (subst (Sat φ w) at x.3)) in
    Decides-like b (λ x. e.1 (here x)) (λ x. back (e.0 x)) s
settled_tells known k (Always a) lead cycle words b pos f z p s i h =
    let w = spelling lead cycle in
    let φ = get_or known a bottom in
    let n = length lead in
    let e = settled_always φ w n (length cycle) pos (rounds_repeat lead cycle pos) (suc i) (omega arith) in
    let here : ((j : ℕ) → j < length words → bit a (get_or words j 0) ≡ true) → Throughout (Sat φ w) n (n + length cycle) =
    λ x m l r.
    let j = m - n in
    let at : n + j ≡ m = omega arith in
    subst (Sat φ w) at ((p j (omega arith) a f).0 (x j (omega arith))) in
    let back : Throughout (Sat φ w) n (n + length cycle) → (j : ℕ) → j < length words → bit a (get_or words j 0) ≡ true =
    λ x j l. (p j (omega arith) a f).1 (x (n + j) (omega arith) (omega arith)) in
    Decides-like b (λ x. e.1 (here x)) (λ x. back (e.0 x)) s

-- one subformula more
module _ (ns : List Node) (lead cycle : List ℕ) (k : ℕ) (lead_words cycle_words lead_now cycle_now : List ℕ) (pos : 0 < length cycle) (h : k < length ns)
    (f : Fits k (get_or ns k True)) (n : length lead_words ≡ length lead) (t : Told ns lead cycle k (lead_words ++ cycle_words))
    (c : Cycled (get_or ns k True) k cycle cycle_words cycle_now)
    (s : Led (get_or ns k True) k lead (bit k (get_or cycle_now 0 0)) lead_words lead_now) where
  node : Node
  node = get_or ns k True

  abbrev row : List ℕ
  row = lead_words ++ cycle_words

  abbrev now : List ℕ
  now = lead_now ++ cycle_now

  abbrev behind : Bool
  behind = bit k (get_or cycle_now 0 0)

  many : length cycle_words ≡ length cycle
  many = omega (arith, t.size, length-append lead_words cycle_words)

  total : length row ≡ length lead + length cycle
  total = t.size

  -- a word of the lead-in, and one of the cycle
  before : (xs ys : List ℕ) (i : ℕ) → length xs ≡ length lead → i < length lead → get_or (xs ++ ys) i 0 ≡ get_or xs i 0
  before xs ys i e l = get_or_append_left xs ys 0 i (omega arith)

  after : (xs ys : List ℕ) (i : ℕ) → length xs ≡ length lead → length lead ≤ i → get_or (xs ++ ys) i 0 ≡ get_or ys (i - length lead) 0
  after xs ys i e l = get_or-append_right xs ys (length lead) i 0 e l

  -- word i has bit k where subformula k holds, and is else as it was
  Right : ℕ → Type 0
  Right i = (b : Bool) × (get_or now i 0 ≡ get_or row i 0 + cond b (2 ^ k) 0)
      × Decides b (Sat (meaning_of (meanings ns) (get_or ns k True)) (spelling lead cycle) i)

  -- the bits below, of a word of the cycle
  parts : (j : ℕ) → j < length cycle → Parts (meanings ns) k (spelling lead cycle) (length lead + j) (get_or cycle_words j 0)
  parts j l m a =
      let at : length lead + j - length lead ≡ j = omega arith in
      let e : get_or row (length lead + j) 0 ≡ get_or cycle_words j 0 =
      after lead_words cycle_words (length lead + j) n (omega arith) ∙ ap (λ v. get_or cycle_words v 0) at in
      Decides-at (bit m (get_or cycle_words j 0)) (bit m (get_or row (length lead + j) 0)) (ap (bit m) (sym e))
      (t.right m (length lead + j) a (omega (arith, total)))

  -- in the cycle, by the look over it
  right_cycle : (i : ℕ) → length lead ≤ i → i < length lead + length cycle → Right i
  unfolding Right node
  right_cycle i l r =
      let j = i - length lead in
      let letter : spelling lead cycle i ≡ get_or cycle j 0 = ap (spelling lead cycle) (omega arith) ∙ spelling_cycle lead cycle j (omega arith) in
      let at : length lead + j ≡ i = omega arith in
      let old = after lead_words cycle_words i n l in (
        value node (get_or cycle j 0) (get_or cycle_words j 0) c.settled,
        after lead_now cycle_now i (s.size ∙ n) l ∙ c.marked.inside j (omega (arith, many))
            ∙ ap (λ v. v + cond (value node (get_or cycle j 0) (get_or cycle_words j 0) c.settled) (2 ^ k) 0) (sym old),
        value_right (meanings ns) k node (spelling lead cycle) i (get_or cycle j 0) (get_or cycle_words j 0) c.settled f letter
            (subst (λ v. Parts (meanings ns) k (spelling lead cycle) v (get_or cycle_words j 0)) at (parts j (omega arith)))
            (settled_tells (meanings ns) k node lead cycle cycle_words c.settled pos f many parts c.told i l),
      )

  -- the bit of the word behind one of the lead-in
  follows : (i : ℕ) → i < length lead → bit_at k lead_now behind (i + 1) ≡ bit k (get_or now (i + 1) 0)
  follows i l = elim (cases_lt (i + 1) (length lead)) [
    | inl a ↦ get_or-map (bit k) lead_now (i + 1) 0 behind (omega (arith, s.size)) ∙ ap (bit k) (sym (before lead_now cycle_now (i + 1) (s.size ∙ n) a))
    | inr a ↦
        let first : 0 ≡ i + 1 - length lead = omega arith in
        get_or_past (map (bit k) lead_now) (i + 1) behind (omega (arith, s.size, length-map lead_now (bit k)))
        ∙ ap (λ v. bit k (get_or cycle_now v 0)) first ∙ ap (bit k) (sym (after lead_now cycle_now (i + 1) (s.size ∙ n) a))
  ]

  -- in the lead-in, by the position behind
  right_lead : (i : ℕ) → i < length lead → Right (suc i) → Right i
  unfolding Right node
  right_lead i l q =
      let letter = get_or lead i 0 in
      let old = before lead_words cycle_words i n l in
      let next : bit_at k lead_now behind (i + 1) ≡ q.0 =
      follows i l ∙ ap (λ v. bit k (get_or now v 0)) (add-one i) ∙ ap (bit k) q.1
      ∙ bit_put k (get_or row (suc i) 0) q.0 (t.small (suc i) (omega (arith, total))) in (
        value node letter (get_or row i 0) q.0,
        before lead_now cycle_now i (s.size ∙ n) l ∙ s.inside i (omega arith)
            ∙ ap (λ v. v + cond (value node letter v (bit_at k lead_now behind (i + 1))) (2 ^ k) 0) (sym old)
            ∙ ap (λ b. get_or row i 0 + cond (value node letter (get_or row i 0) b) (2 ^ k) 0) next,
        value_right (meanings ns) k node (spelling lead cycle) i letter (get_or row i 0) q.0 f (spelling_lead lead cycle i l)
            (λ m a. t.right m i a (omega (arith, total))) (any_tells (meanings ns) node (spelling lead cycle) i q.0 q.2),
      )

  -- and so backwards from the cycle to every position
  right_back : (d i : ℕ) → i + d ≡ length lead → Right i
  right_back zero i e = right_cycle i (omega arith) (omega arith)
  right_back (suc d) i e = right_lead i (omega arith) (right_back d (suc i) (omega arith))

  right_at : (i : ℕ) → i < length lead + length cycle → Right i
  right_at i l = elim (cases_lt i (length lead)) [ inl a ↦ right_back (length lead - i) i (omega arith) | inr a ↦ right_cycle i a l ]

  size : length now ≡ length lead + length cycle
  size = omega (arith, length-append lead_now cycle_now, s.size, n, c.marked.size, many)

  pub told_more : Told ns lead cycle (k + 1) now
  unfolding Right
  told_more = record { size = size; small = small; right = right }
    where
      small : (i : ℕ) → i < length now → get_or now i 0 < 2 ^ (k + 1)
      small i l =
          let q = right_at i (omega (arith, size)) in
          subst (λ v. v < 2 ^ (k + 1)) (sym q.1) (put_below k (get_or row i 0) q.0 (t.small i (omega (arith, size, total))))

      right : (m i : ℕ) → m < k + 1 → i < length now → Decides (bit m (get_or now i 0)) (Sat (get_or (meanings ns) m bottom) (spelling lead cycle) i)
      right m i l r =
          let q = right_at i (omega (arith, size)) in
          let old : i < length row = omega (arith, size, total) in
          elim (cases_eq m k) [
            | inl e ↦
                let here : bit m (get_or now i 0) ≡ q.0 =
                ap (λ j. bit j (get_or now i 0)) e ∙ ap (bit k) q.1 ∙ bit_put k (get_or row i 0) q.0 (t.small i old) in
                let means : meaning_of (meanings ns) (get_or ns k True) ≡ get_or (meanings ns) m bottom =
                sym (mean_at ns k h f) ∙ ap (λ j. get_or (meanings ns) j bottom) (sym e) in
                subst (λ φ. Decides (bit m (get_or now i 0)) (Sat φ (spelling lead cycle) i)) means (Decides-at (bit m (get_or now i 0)) q.0 here q.2)
            | inr ne ↦
                let below : m < k = omega arith in
                Decides-at (bit m (get_or now i 0)) (bit m (get_or row i 0)) (ap (bit m) q.1 ∙ bit_kept m k (get_or row i 0) q.0 below) (t.right m i below old)
          ]
