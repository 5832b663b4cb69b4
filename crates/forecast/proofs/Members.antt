-- The F and G within a forecast and outside it. Assumes nothing.
use Rattle.std.proofs.Common.{◌≡◌, ℕ, ◌<◌, Bool, true, false, not, List, length, get_or, refl, ap, ◌∙◌, subst}
use Rattle.std.proofs.lemmas.Bool.{false≢true, and_parts, and_from, not-true}
use Rattle.ltl.specs.declared.Node.{Node}
use Rattle.ltl.specs.declared.Node.TheVariants.{True, False, Atom, NotAtom, And, Or, Eventually, Always}
use Rattle.ltl.proofs.Meanings.{Fits, Tidy}
use Rattle.forecast.specs.Steady.{on_f, on_g, within, each_f, other_f, each_g, other_g}

-- the part of an F has a smaller number
pub part_f : (ns : List Node) → Tidy ns → (k q : ℕ) → k < length ns → get_or ns k True ≡ Eventually q → q < k
part_f ns tidy k q l e = subst (Fits k) e (tidy k l)

-- the part of a G has a smaller number
pub part_g : (ns : List Node) → Tidy ns → (k q : ℕ) → k < length ns → get_or ns k True ≡ Always q → q < k
part_g ns tidy k q l e = subst (Fits k) e (tidy k l)

-- a node that passes as an F is one, and its part passes
on_f_is : (test : ℕ → Bool) (x : Node) → on_f test x ≡ true → (q : ℕ) × (x ≡ Eventually q) × (test q ≡ true)
on_f_is test True e = absurd (false≢true e)
on_f_is test False e = absurd (false≢true e)
on_f_is test (Atom a) e = absurd (false≢true e)
on_f_is test (NotAtom a) e = absurd (false≢true e)
on_f_is test (And i j) e = absurd (false≢true e)
on_f_is test (Or i j) e = absurd (false≢true e)
on_f_is test (Eventually q) e = (q, refl, e)
on_f_is test (Always q) e = absurd (false≢true e)

-- a node that passes as a G is one, and its part passes
on_g_is : (test : ℕ → Bool) (x : Node) → on_g test x ≡ true → (q : ℕ) × (x ≡ Always q) × (test q ≡ true)
on_g_is test True e = absurd (false≢true e)
on_g_is test False e = absurd (false≢true e)
on_g_is test (Atom a) e = absurd (false≢true e)
on_g_is test (NotAtom a) e = absurd (false≢true e)
on_g_is test (And i j) e = absurd (false≢true e)
on_g_is test (Or i j) e = absurd (false≢true e)
on_g_is test (Eventually q) e = absurd (false≢true e)
on_g_is test (Always q) e = (q, refl, e)

module _ (n : ℕ) (ns : List Node) (I : ℕ) (test : ℕ → Bool) (k : ℕ) where
  -- an F within
  pub each_f_is : each_f n ns I test k ≡ true → (q : ℕ) × (get_or ns k True ≡ Eventually q) × (within n ns I k ≡ true) × (test q ≡ true)
  each_f_is e =
      let p = and_parts (within n ns I k) (on_f test (get_or ns k True)) e in
      let f = on_f_is test (get_or ns k True) p.1 in
      (f.0, f.1, p.0, f.2)

  -- an F outside
  pub other_f_is : other_f n ns I test k ≡ true → (q : ℕ) × (get_or ns k True ≡ Eventually q) × (within n ns I k ≡ false) × (test q ≡ true)
  other_f_is e =
      let p = and_parts (not (within n ns I k)) (on_f test (get_or ns k True)) e in
      let f = on_f_is test (get_or ns k True) p.1 in
      (f.0, f.1, not-true _ p.0, f.2)

  -- a G within
  pub each_g_is : each_g n ns I test k ≡ true → (q : ℕ) × (get_or ns k True ≡ Always q) × (within n ns I k ≡ true) × (test q ≡ true)
  each_g_is e =
      let p = and_parts (within n ns I k) (on_g test (get_or ns k True)) e in
      let f = on_g_is test (get_or ns k True) p.1 in
      (f.0, f.1, p.0, f.2)

  -- a G outside
  pub other_g_is : other_g n ns I test k ≡ true → (q : ℕ) × (get_or ns k True ≡ Always q) × (within n ns I k ≡ false) × (test q ≡ true)
  other_g_is e =
      let p = and_parts (not (within n ns I k)) (on_g test (get_or ns k True)) e in
      let f = on_g_is test (get_or ns k True) p.1 in
      (f.0, f.1, not-true _ p.0, f.2)

  -- an F within whose part passes is found
  pub each_f_from : (q : ℕ) → get_or ns k True ≡ Eventually q → within n ns I k ≡ true → test q ≡ true → each_f n ns I test k ≡ true
  each_f_from q e b t = and_from _ _ b (ap (on_f test) e ∙ t)

  -- and so is a G within
  pub each_g_from : (q : ℕ) → get_or ns k True ≡ Always q → within n ns I k ≡ true → test q ≡ true → each_g n ns I test k ≡ true
  each_g_from q e b t = and_from _ _ b (ap (on_g test) e ∙ t)
