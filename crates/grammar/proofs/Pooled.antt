-- The pool of at most 32 nodes against the numbering without that limit.
use Rattle.std.proofs.Common.{◌≡◌, ℕ, ◌<◌, ◌≤◌, Bool, true, false, ltb, List, [], ◌∷◌, ◌++◌, length, refl, arith, length-append}
use Rattle.std.proofs.lemmas.Bool.{ltb-true, ltb-false, cond_both}
use Rattle.ltl.specs.declared.Node.{Node}
use Rattle.ltl.specs.declared.Node.TheVariants.{True, False, Atom, NotAtom, And, Or, Eventually, Always}
use Rattle.ltl.specs.Formula.{Formula}
use Rattle.ltl.specs.Formula.Formula.{top, bottom, atom, negated, both, either, eventually, always}
use Rattle.ltl.specs.Lists.{position}
use Rattle.ltl.specs.Arena.{same_node, number_on, put as place}
use Rattle.grammar.specs.Descent.{Held, put}

-- a formula's subformulae numbered into the pool
abbrev pub number_held : Formula ℕ → Held → Held × ℕ
number_held top h = put True h
number_held bottom h = put False h
number_held (atom a) h = put (Atom a) h
number_held (negated a) h = put (NotAtom a) h
number_held (both φ ψ) h = let r = number_held φ h in let s = number_held ψ r.0 in put (And r.1 s.1) s.0
number_held (either φ ψ) h = let r = number_held φ h in let s = number_held ψ r.0 in put (Or r.1 s.1) s.0
number_held (eventually φ) h = let r = number_held φ h in put (Eventually r.1) r.0
number_held (always φ) h = let r = number_held φ h in put (Always r.1) r.0

-- pool and list are the same with the same number, or both have passed 32
pub data Agree : Held × ℕ → List Node × ℕ → Type 0 where
  same : (ns : List Node) (k : ℕ) → length ns ≤ 32 → Agree (record { nodes = ns; over = false }, k) (ns, k)
  past : {r : Held × ℕ} {s : List Node × ℕ} → r.0.over ≡ true → 32 < length s.0 → Agree r s

-- a node found no place
abbrev Over : Held → Type 0
Over h = h.over ≡ true

-- a pool that ran over stays so
put_over : (n : Node) (h : Held) → Over h → Over (put n h).0
put_over n h e = cond_both (ltb (position same_node n h.nodes) (length h.nodes)) _ _ (λ (r : Held × ℕ). Over r.0) (λ _. e)
    (λ _. cond_both (ltb (length h.nodes) 32) _ _ (λ (r : Held × ℕ). Over r.0) (λ _. e) (λ _. refl))

-- putting a node makes the list no shorter
place_grows : (n : Node) (ns : List Node) (k : ℕ) → k < length ns → k < length (place n ns).0
place_grows n ns k h = cond_both (ltb (position same_node n ns) (length ns)) ns (ns ++ (n ∷ [])) (λ (l : List Node). k < length l) (λ _. h)
    (λ _. omega (arith, length-append ns (n ∷ [])))

-- numbering keeps that the pool ran over
pub number_over : (φ : Formula ℕ) (h : Held) → Over h → Over (number_held φ h).0
number_over top h e = put_over True h e
number_over bottom h e = put_over False h e
number_over (atom a) h e = put_over (Atom a) h e
number_over (negated a) h e = put_over (NotAtom a) h e
number_over (both φ ψ) h e = let r = number_held φ h in let s = number_held ψ r.0 in put_over (And r.1 s.1) s.0 (number_over ψ r.0 (number_over φ h e))
number_over (either φ ψ) h e = let r = number_held φ h in let s = number_held ψ r.0 in put_over (Or r.1 s.1) s.0 (number_over ψ r.0 (number_over φ h e))
number_over (eventually φ) h e = let r = number_held φ h in put_over (Eventually r.1) r.0 (number_over φ h e)
number_over (always φ) h e = let r = number_held φ h in put_over (Always r.1) r.0 (number_over φ h e)

-- numbering makes the list no shorter
pub number_grows : (φ : Formula ℕ) (ns : List Node) (k : ℕ) → k < length ns → k < length (number_on φ ns).0
number_grows top ns k h = place_grows True ns k h
number_grows bottom ns k h = place_grows False ns k h
number_grows (atom a) ns k h = place_grows (Atom a) ns k h
number_grows (negated a) ns k h = place_grows (NotAtom a) ns k h
number_grows (both φ ψ) ns k h = let r = number_on φ ns in let s = number_on ψ r.0 in
    place_grows (And r.1 s.1) s.0 k (number_grows ψ r.0 k (number_grows φ ns k h))
number_grows (either φ ψ) ns k h = let r = number_on φ ns in let s = number_on ψ r.0 in
    place_grows (Or r.1 s.1) s.0 k (number_grows ψ r.0 k (number_grows φ ns k h))
number_grows (eventually φ) ns k h = let r = number_on φ ns in place_grows (Eventually r.1) r.0 k (number_grows φ ns k h)
number_grows (always φ) ns k h = let r = number_on φ ns in place_grows (Always r.1) r.0 k (number_grows φ ns k h)

-- one node put into both
put_same : (n : Node) (ns : List Node) → length ns ≤ 32 → Agree (put n (record { nodes = ns; over = false })) (place n ns)
put_same n ns l = go (ltb (position same_node n ns) (length ns)) refl (ltb (length ns) 32) refl
  where
    go : (a : Bool) → ltb (position same_node n ns) (length ns) ≡ a → (b : Bool) → ltb (length ns) 32 ≡ b
        → Agree (put n (record { nodes = ns; over = false })) (place n ns)
    go true e b f = simp e (same ns _ l)
    go false e true f = simp (e, f) (same (ns ++ (n ∷ [])) _ (omega (arith, ltb-true (length ns) 32 f, length-append ns (n ∷ []))))
    go false e false f = simp (e, f) (past {s = (ns ++ (n ∷ []), position same_node n ns)} refl
        (omega (arith, ltb-false (length ns) 32 f, length-append ns (n ∷ []))))

-- a node above one numbered part keeps the agreement
step_one : (f : ℕ → Node) (r : Held × ℕ) (s : List Node × ℕ) → Agree r s → Agree (put (f r.1) r.0) (place (f s.1) s.0)
step_one f r s (same ns k l) = put_same (f k) ns l
step_one f r s (past o l) = past (put_over (f r.1) r.0 o) (place_grows (f s.1) s.0 32 l)

-- a node above two numbered parts keeps it
step_two : (f : ℕ → ℕ → Node) (ψ : Formula ℕ) (r : Held × ℕ) (s : List Node × ℕ) → Agree r s
    → ((h : Held) (ns : List Node) → Agree (h, 0) (ns, 0) → Agree (number_held ψ h) (number_on ψ ns))
    → Agree (put (f r.1 (number_held ψ r.0).1) (number_held ψ r.0).0) (place (f s.1 (number_on ψ s.0).1) (number_on ψ s.0).0)
step_two f ψ r s (same ns k l) g = step_one (f k) (number_held ψ (record { nodes = ns; over = false })) (number_on ψ ns)
    (g (record { nodes = ns; over = false }) ns (same ns 0 l))
step_two f ψ r s (past o l) g = past (put_over (f r.1 (number_held ψ r.0).1) (number_held ψ r.0).0 (number_over ψ r.0 o))
    (place_grows (f s.1 (number_on ψ s.0).1) (number_on ψ s.0).0 32 (number_grows ψ s.0 32 l))

-- numbering into the pool and without limit agree
pub numbers_agree : (φ : Formula ℕ) (h : Held) (ns : List Node) → Agree (h, 0) (ns, 0) → Agree (number_held φ h) (number_on φ ns)
numbers_agree top h ns a = step_one (λ _. True) (h, 0) (ns, 0) a
numbers_agree bottom h ns a = step_one (λ _. False) (h, 0) (ns, 0) a
numbers_agree (atom k) h ns a = step_one (λ _. Atom k) (h, 0) (ns, 0) a
numbers_agree (negated k) h ns a = step_one (λ _. NotAtom k) (h, 0) (ns, 0) a
numbers_agree (both φ ψ) h ns a = step_two And ψ (number_held φ h) (number_on φ ns) (numbers_agree φ h ns a) (numbers_agree ψ)
numbers_agree (either φ ψ) h ns a = step_two Or ψ (number_held φ h) (number_on φ ns) (numbers_agree φ h ns a) (numbers_agree ψ)
numbers_agree (eventually φ) h ns a = step_one Eventually (number_held φ h) (number_on φ ns) (numbers_agree φ h ns a)
numbers_agree (always φ) h ns a = step_one Always (number_held φ h) (number_on φ ns) (numbers_agree φ h ns a)
