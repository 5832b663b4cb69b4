-- Lists without repetition, over any test that decides equality.
use Rattle.std.proofs.Common.{◌≡◌, ℕ, zero, suc, ◌+◌, ◌<◌, ◌≤◌, Bool, true, false, not, ◌⊎◌, List, [], ◌∷◌, ◌++◌, length, get_or, Decides, sym, refl, ap, ◌∙◌, subst, one-add, arith}
use mathlib.Core.Logic.◌⊎◌.{inl, inr}
use Rattle.std.proofs.lemmas.Bool.{cases_lt, cond-true, cond-false, lt-ltb, le-ltb, both_ways}
use Rattle.std.proofs.lemmas.List.{append-nil, append_assoc, length_push, get_or_push, get_or_append_left}
use Rattle.std.proofs.lemmas.List.Sums.{prefix_len-le-length}
use Rattle.ltl.specs.Lists.{position, added, added_all, firsts}

-- x stands in the list
abbrev pub In : {X : Type 0} → X → List X → Type 0
In x [] = ⊥
In x (y ∷ ys) = (x ≡ y) ⊎ In x ys

-- no element stands at two places
abbrev pub Once : {X : Type 0} → List X → Type 0
Once ys = (j k : ℕ) → j < length ys → k < length ys → (d : _) → get_or ys j d ≡ get_or ys k d → j ≡ k

-- what is read within a list stands in it
pub get_or_in : {X : Type 0} (ys : List X) (k : ℕ) (d : X) → k < length ys → In (get_or ys k d) ys
get_or_in [] k d h = let z : ⊥ = omega arith in z
get_or_in (y ∷ ys) zero d h = inl refl
get_or_in (y ∷ ys) (suc k) d h = inr (get_or_in ys k d (omega arith))

-- an element of a list stands at some place
pub in_get_or : {X : Type 0} (x : X) (ys : List X) → In x ys → (k : ℕ) × (k < length ys) × ((d : X) → get_or ys k d ≡ x)
in_get_or x [] h = absurd h
in_get_or x (y ∷ ys) (inl e) = (zero, omega arith, λ d. sym e)
in_get_or x (y ∷ ys) (inr h) = let r = in_get_or x ys h in (suc r.0, (let l = r.1 in omega arith), r.2)

-- what stands in the front of a list stands in it
pub in_left : {X : Type 0} (x : X) (ys zs : List X) → In x ys → In x (ys ++ zs)
in_left x [] zs h = absurd h
in_left x (y ∷ ys) zs (inl e) = inl e
in_left x (y ∷ ys) zs (inr h) = inr (in_left x ys zs h)

-- what stands in the rest of a list stands in it
pub in_right : {X : Type 0} (x : X) (ys zs : List X) → In x zs → In x (ys ++ zs)
in_right x [] zs h = h
in_right x (y ∷ ys) zs h = inr (in_right x ys zs h)

-- what stands in two lists joined stands in one of them
pub in_append : {X : Type 0} (x : X) (ys zs : List X) → In x (ys ++ zs) → In x ys ⊎ In x zs
in_append x [] zs h = inr h
in_append x (y ∷ ys) zs (inl e) = inl (inl e)
in_append x (y ∷ ys) zs (inr h) = elim (in_append x ys zs h) [ inl a ↦ inl (inr a) | inr b ↦ inr b ]

-- what stands in a list of one element is that
pub in_one : {X : Type 0} (x y : X) → In x (y ∷ []) → x ≡ y
in_one x y (inl e) = e
in_one x y (inr h) = absurd h

-- a place within a list and one more element is within the list or the last
pub push_at : {X : Type 0} (ys : List X) (x : X) (k : ℕ) → k < length (ys ++ (x ∷ []))
    → ((k < length ys) × ((d : X) → get_or (ys ++ (x ∷ [])) k d ≡ get_or ys k d)) ⊎ ((k ≡ length ys) × ((d : X) → get_or (ys ++ (x ∷ [])) k d ≡ x))
push_at ys x k h = elim (cases_lt k (length ys)) [
  | inl l ↦ inl (l, λ d. get_or_append_left ys (x ∷ []) d k l)
  | inr l ↦ (let e : k ≡ length ys = omega (arith, length_push ys x) in inr (e, λ d. get_or_push ys x d k (sym e)))
]

-- the empty list repeats nothing
pub once_nil : {X : Type 0} → Once {X = X} []
once_nil j k h l d e = let z : ⊥ = omega arith in absurd z

-- a list without repetition stays so with an element behind it that it does not have
pub once_push : {X : Type 0} (ys : List X) (x : X) → Once ys → (In x ys → ⊥) → Once (ys ++ (x ∷ []))
once_push ys x o out j k h l d e = elim (push_at ys x j h) [
  | inl p ↦ elim (push_at ys x k l) [
    | inl q ↦ o j k p.0 q.0 d (sym (p.1 d) ∙ e ∙ q.1 d)
    | inr q ↦ absurd (out (subst (λ z. In z ys) (sym (p.1 d) ∙ e ∙ q.1 d) (get_or_in ys j d p.0)))
  ]
  | inr p ↦ elim (push_at ys x k l) [
    | inl q ↦ absurd (out (subst (λ z. In z ys) (sym (q.1 d) ∙ sym e ∙ p.1 d) (get_or_in ys k d q.0)))
    | inr q ↦ omega arith
  ]
]

-- ys has the elements of ps, ordered by their first places there
pub record Orders {X : Type 0} (same : X → X → Bool) (ys ps : List X) : Type 0 where
  pub from : (x : X) → In x ys → In x ps
  pub has : (x : X) → In x ps → In x ys
  pub climbs : (j k : ℕ) (d : X) → j < k → k < length ys → position same (get_or ys j d) ps < position same (get_or ys k d) ps

module _ {X : Type 0} (same : X → X → Bool) (dec : (x y : X) → Decides (same x y) (x ≡ y)) where
  -- the place of x in a list is 0 where x stands first, and else one more than in the rest
  pub place : (x y : X) (ys : List X)
      → ((x ≡ y) × (position same x (y ∷ ys) ≡ 0)) ⊎ ((x ≡ y → ⊥) × (position same x (y ∷ ys) ≡ suc (position same x ys)))
  place x y ys = go (same x y) refl
    where
      go : (b : Bool) → same x y ≡ b
          → ((x ≡ y) × (position same x (y ∷ ys) ≡ 0)) ⊎ ((x ≡ y → ⊥) × (position same x (y ∷ ys) ≡ suc (position same x ys)))
      go true e = inl ((dec x y).0 e, cond-false _ _ _ (ap not e))
      go false e = inr ((λ i. both_ways _ e ((dec x y).1 i)), cond-true _ _ _ (ap not e) ∙ one-add _)

  -- a place is at most the length
  pub position_le : (x : X) (ys : List X) → position same x ys ≤ length ys
  position_le x ys = prefix_len-le-length (λ y. not (same x y)) ys

  -- an element of a list has its place within it
  pub in_position : (x : X) (ys : List X) → In x ys → position same x ys < length ys
  in_position x [] h = absurd h
  in_position x (y ∷ ys) (inl e) = elim (place x y ys) [ inl p ↦ omega arith | inr p ↦ absurd (p.0 e) ]
  in_position x (y ∷ ys) (inr h) = elim (place x y ys) [ inl p ↦ omega arith | inr p ↦ omega (arith, in_position x ys h) ]

  -- what has its place within a list stands there
  pub position_at : (x : X) (ys : List X) → position same x ys < length ys → (d : X) → get_or ys (position same x ys) d ≡ x
  position_at x [] h d = let z : ⊥ = omega arith in absurd z
  position_at x (y ∷ ys) h d = elim (place x y ys) [
    | inl p ↦ ap (λ k. get_or (y ∷ ys) k d) p.1 ∙ sym p.0
    | inr p ↦ ap (λ k. get_or (y ∷ ys) k d) p.1 ∙ position_at x ys (omega arith) d
  ]

  -- what has its place within a list is an element
  pub position_in : (x : X) (ys : List X) → position same x ys < length ys → In x ys
  position_in x ys h = subst (λ z. In z ys) (position_at x ys h x) (get_or_in ys _ x h)

  -- the place of x is the first where x stands
  pub position_first : (x : X) (ys : List X) (k : ℕ) (d : X) → k < length ys → get_or ys k d ≡ x → position same x ys ≤ k
  position_first x [] k d h e = let z : ⊥ = omega arith in absurd z
  position_first x (y ∷ ys) zero d h e = elim (place x y ys) [ inl p ↦ omega arith | inr p ↦ absurd (p.0 (sym e)) ]
  position_first x (y ∷ ys) (suc k) d h e =
      elim (place x y ys) [ inl p ↦ omega arith | inr p ↦ omega (arith, position_first x ys k d (omega arith) e) ]

  -- in a list without repetition each place is that of its element
  pub position_once : (ys : List X) (k : ℕ) (d : X) → Once ys → k < length ys → position same (get_or ys k d) ys ≡ k
  position_once ys k d o h =
      let l = in_position (get_or ys k d) ys (get_or_in ys k d h) in
      o _ k l h d (position_at (get_or ys k d) ys l d)

  -- an element stands in a list or does not
  pub in_or : (x : X) (ys : List X) → In x ys ⊎ (In x ys → ⊥)
  in_or x ys = elim (cases_lt (position same x ys) (length ys)) [ inl h ↦ inl (position_in x ys h) | inr h ↦ inr (λ i. omega (arith, in_position x ys i)) ]

  -- the place of what is not there is the length
  pub position_none : (x : X) (ys : List X) → (In x ys → ⊥) → position same x ys ≡ length ys
  position_none x ys no-in = elim (cases_lt (position same x ys) (length ys))
      [ inl h ↦ absurd (no-in (position_in x ys h)) | inr h ↦ omega (arith, position_le x ys) ]

  -- the place of an element of the front is its place there
  pub position_left : (x : X) (ys zs : List X) → In x ys → position same x (ys ++ zs) ≡ position same x ys
  position_left x [] zs h = absurd h
  position_left x (y ∷ ys) zs (inl e) = elim (place x y ys)
      [ inl p ↦ elim (place x y (ys ++ zs)) [ inl q ↦ q.1 ∙ sym p.1 | inr q ↦ absurd (q.0 e) ] | inr p ↦ absurd (p.0 e) ]
  position_left x (y ∷ ys) zs (inr h) = elim (place x y ys) [
    | inl p ↦ elim (place x y (ys ++ zs)) [ inl q ↦ q.1 ∙ sym p.1 | inr q ↦ absurd (q.0 p.0) ]
    | inr p ↦ elim (place x y (ys ++ zs)) [ inl q ↦ absurd (p.0 q.0) | inr q ↦ q.1 ∙ ap suc (position_left x ys zs h) ∙ sym p.1 ]
  ]

  -- x is not added where it stands
  pub added_old : (ys : List X) (x : X) → In x ys → added same ys x ≡ ys
  added_old ys x h = cond-true _ _ _ (lt-ltb _ _ (in_position x ys h))

  -- x is added behind where it does not stand
  pub added_new : (ys : List X) (x : X) → (In x ys → ⊥) → added same ys x ≡ ys ++ (x ∷ [])
  added_new ys x h = let l : length ys ≤ position same x ys = omega (arith, position_none x ys h) in cond-false _ _ _ (le-ltb _ _ l)

  -- what is added stands there
  pub added_has : (ys : List X) (x : X) → In x (added same ys x)
  added_has ys x = elim (in_or x ys)
      [ inl h ↦ subst (In x) (sym (added_old ys x h)) h | inr h ↦ subst (In x) (sym (added_new ys x h)) (in_right x ys _ (inl refl)) ]

  -- the list begins as before
  pub added_begins : (ys : List X) (x : X) → (rest : List X) × (added same ys x ≡ ys ++ rest)
  added_begins ys x = elim (in_or x ys) [ inl h ↦ ([], added_old ys x h ∙ sym (append-nil ys)) | inr h ↦ (x ∷ [], added_new ys x h) ]

  -- and so after more are added
  pub added_all_begins : (ys xs : List X) → (rest : List X) × (added_all same ys xs ≡ ys ++ rest)
  added_all_begins ys [] = ([], sym (append-nil ys))
  added_all_begins ys (x ∷ xs) =
      let a = added_begins ys x in
      let b = added_all_begins (added same ys x) xs in
      (a.0 ++ b.0, b.1 ∙ ap (λ l. l ++ b.0) a.1 ∙ append_assoc ys a.0 b.0)

  -- to add two lists is to add one after the other
  pub added_all_append : (ys xs zs : List X) → added_all same ys (xs ++ zs) ≡ added_all same (added_all same ys xs) zs
  added_all_append ys [] zs = refl
  added_all_append ys (x ∷ xs) zs = added_all_append (added same ys x) xs zs

  -- nothing is lost
  pub added_all_keeps : (ys xs : List X) (x : X) → In x ys → In x (added_all same ys xs)
  added_all_keeps ys xs x h = let b = added_all_begins ys xs in subst (In x) (sym b.1) (in_left x ys b.0 h)

  -- all of xs stand there after
  pub added_all_has : (ys xs : List X) (x : X) → In x xs → In x (added_all same ys xs)
  added_all_has ys [] x h = absurd h
  added_all_has ys (z ∷ xs) x (inl e) = added_all_keeps (added same ys z) xs x (subst (λ w. In w (added same ys z)) (sym e) (added_has ys z))
  added_all_has ys (z ∷ xs) x (inr h) = added_all_has (added same ys z) xs x h

  -- nothing stands there but what did and what is added
  pub added_from : (ys : List X) (x z : X) → In z (added same ys x) → In z ys ⊎ (z ≡ x)
  added_from ys x z i = elim (in_or x ys) [
    | inl h ↦ inl (subst (In z) (added_old ys x h) i)
    | inr h ↦ elim (in_append z ys _ (subst (In z) (added_new ys x h) i)) [ inl a ↦ inl a | inr b ↦ inr (in_one z x b) ]
  ]

  -- the same, after more are added
  pub added_all_from : (ys xs : List X) (z : X) → In z (added_all same ys xs) → In z ys ⊎ In z xs
  added_all_from ys [] z i = inl i
  added_all_from ys (x ∷ xs) z i = elim (added_all_from (added same ys x) xs z i)
      [ inl a ↦ elim (added_from ys x z a) [ inl b ↦ inl b | inr e ↦ inr (inl e) ] | inr b ↦ inr (inr b) ]

  -- adding keeps a list without repetition
  pub added_once : (ys : List X) (x : X) → Once ys → Once (added same ys x)
  added_once ys x o = elim (in_or x ys) [ inl h ↦ subst Once (sym (added_old ys x h)) o | inr h ↦ subst Once (sym (added_new ys x h)) (once_push ys x o h) ]

  -- the same, after more are added
  pub added_all_once : (ys xs : List X) → Once ys → Once (added_all same ys xs)
  added_all_once ys [] o = o
  added_all_once ys (x ∷ xs) o = added_all_once (added same ys x) xs (added_once ys x o)

  -- the place of what is not in the front is behind it
  pub position_right : (x : X) (ys zs : List X) → (In x ys → ⊥) → position same x (ys ++ zs) ≡ length ys + position same x zs
  position_right x [] zs out = omega arith
  position_right x (y ∷ ys) zs out = elim (place x y (ys ++ zs))
      [ inl p ↦ absurd (out (inl p.0)) | inr p ↦ omega (arith, p.1, position_right x ys zs (λ i. out (inr i))) ]

  -- the order is kept where x comes again
  orders_old : (ys ps : List X) (x : X) → Orders same ys ps → In x ys → Orders same ys (ps ++ (x ∷ []))
  orders_old ys ps x o h = record {
    from = λ z i. in_left z ps _ (o.from z i);
    has = λ z i. elim (in_append z ps _ i) [ inl a ↦ o.has z a | inr b ↦ subst (λ w. In w ys) (sym (in_one z x b)) h ];
    climbs = λ j k d l m.
        let a = position_left (get_or ys j d) ps (x ∷ []) (o.from _ (get_or_in ys j d (omega arith))) in
        let b = position_left (get_or ys k d) ps (x ∷ []) (o.from _ (get_or_in ys k d m)) in
        let c = o.climbs j k d l m in omega arith;
  }

  -- the order is kept where x is new
  orders_new : (ys ps : List X) (x : X) → Orders same ys ps → (In x ys → ⊥) → Orders same (ys ++ (x ∷ [])) (ps ++ (x ∷ []))
  orders_new ys ps x o h = record {
    from = λ z i. elim (in_append z ys _ i) [ inl a ↦ in_left z ps _ (o.from z a) | inr b ↦ in_right z ps _ b ];
    has = λ z i. elim (in_append z ps _ i) [ inl a ↦ in_left z ys _ (o.has z a) | inr b ↦ in_right z ys _ b ];
    climbs = λ j k d l m. elim (push_at ys x k m) [
      | inl p ↦ (let f = get_or_append_left ys (x ∷ []) d j (omega arith) in
          let a = ap (λ z. position same z (ps ++ (x ∷ []))) f ∙ position_left (get_or ys j d) ps (x ∷ []) (o.from _ (get_or_in ys j d (omega arith))) in
          let b = ap (λ z. position same z (ps ++ (x ∷ []))) (p.1 d) ∙ position_left (get_or ys k d) ps (x ∷ []) (o.from _ (get_or_in ys k d p.0)) in
          let c = o.climbs j k d l p.0 in omega arith)
      | inr p ↦ (let f = get_or_append_left ys (x ∷ []) d j (omega arith) in
          let i = o.from _ (get_or_in ys j d (omega arith)) in
          let a = ap (λ z. position same z (ps ++ (x ∷ []))) f ∙ position_left (get_or ys j d) ps (x ∷ []) i in
          let b = ap (λ z. position same z (ps ++ (x ∷ []))) (p.1 d) ∙ position_right x ps (x ∷ []) (λ q. h (o.has x q)) in
          let c = in_position (get_or ys j d) ps i in omega arith)
    ];
  }

  -- the order is kept by one more element on both sides
  added_orders : (ys ps : List X) (x : X) → Orders same ys ps → Orders same (added same ys x) (ps ++ (x ∷ []))
  added_orders ys ps x o = elim (in_or x ys) [
    | inl h ↦ subst (λ l. Orders same l (ps ++ (x ∷ []))) (sym (added_old ys x h)) (orders_old ys ps x o h)
    | inr h ↦ subst (λ l. Orders same l (ps ++ (x ∷ []))) (sym (added_new ys x h)) (orders_new ys ps x o h)
  ]

  -- and by more
  pub added_all_orders : (ys ps xs : List X) → Orders same ys ps → Orders same (added_all same ys xs) (ps ++ xs)
  added_all_orders ys ps [] o = subst (Orders same ys) (sym (append-nil ps)) o
  added_all_orders ys ps (x ∷ xs) o =
      subst (Orders same (added_all same ys (x ∷ xs))) (append_assoc ps (x ∷ []) xs)
      (added_all_orders (added same ys x) (ps ++ (x ∷ [])) xs (added_orders ys ps x o))

  -- the distinct elements of a list stand in the order of their first places
  pub firsts_orders : (xs : List X) → Orders same (firsts same xs) xs
  firsts_orders xs = added_all_orders [] [] xs (record { from = λ x i. i; has = λ x i. i; climbs = λ j k d l m. let z : ⊥ = omega arith in absurd z })

  -- and none stands twice
  pub firsts_once : (xs : List X) → Once (firsts same xs)
  firsts_once xs = added_all_once [] xs once_nil
