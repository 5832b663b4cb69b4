-- The numbering lists each subformula once, in the order of the last bytes.
use Rattle.std.proofs.Common.{◌≡◌, ℕ, ◌+◌, ◌-◌, ◌<◌, ◌≤◌, true, List, [], ◌∷◌, ◌++◌, length, get_or, sym, refl, ap, ◌∙◌, subst, arith}
use mathlib.Core.Logic.◌⊎◌.{inl, inr}
use Rattle.std.proofs.lemmas.List.{append-nil, append_assoc, length-append, length_push, get_or_push, get_or_append_left}
use Rattle.ltl.specs.declared.Node.{Node}
use Rattle.ltl.specs.declared.Node.TheVariants.{True, False, Atom, NotAtom, And, Or, Eventually, Always}
use Rattle.ltl.specs.Formula.{Formula, Within, ends, Below}
use Rattle.ltl.specs.Formula.Formula.{top, bottom, atom, negated, both, either, eventually, always}
use Rattle.ltl.specs.Lists.{position, added, added_all, firsts}
use Rattle.ltl.specs.Arena.{same_node, put, number_on, arena, meaning_of, meanings, root, sound, all_sound}
use Rattle.ltl.specs.Laws.{same_formula, subformulae, nth, Numbering}
use Rattle.ltl.proofs.Same.{same_node_decides, same_formula_decides}
use Rattle.ltl.proofs.Once.{In, Once, get_or_in, in_get_or, in_position, in_or, position_at, position_none, push_at, once_nil}
use Rattle.ltl.proofs.Once.{added_old, added_new, added_once, added_all_append, added_all_from, firsts_orders, firsts_once}
use Rattle.ltl.proofs.Parts.{ends_within, within_ends, within_below, ends_last}
use Rattle.ltl.proofs.Meanings.{Fits, Tidy, fits_more, meanings_push, meanings_front, length_meanings, mean_at, same_meaning, fits_sound, all_sound_each}

-- what a node of the list spells is among the meanings
pub node_meant : (ns : List Node) (n : Node) → Tidy ns → In n ns → In (meaning_of (meanings ns) n) (meanings ns)
node_meant ns n t i =
    let r = in_get_or n ns i in
    let l : r.0 < length (meanings ns) = (let a = r.1 in omega (arith, length_meanings ns)) in
    subst (λ z. In z (meanings ns)) (mean_at ns r.0 r.1 (t r.0 r.1) ∙ ap (meaning_of (meanings ns)) (r.2 True))
    (get_or_in (meanings ns) r.0 bottom l)

-- a node whose meaning is there is there
pub meant_node : (ns : List Node) (n : Node) → Tidy ns → Once (meanings ns) → Fits (length ns) n → In (meaning_of (meanings ns) n) (meanings ns) → In n ns
meant_node ns n t o f i =
    let r = in_get_or (meaning_of (meanings ns) n) (meanings ns) i in
    let k = r.0 in
    let h : k < length ns = (let a = r.1 in omega (arith, length_meanings ns)) in
    let e = length_meanings ns in
    let g : Fits (length (meanings ns)) (get_or ns k True) = fits_more k _ (get_or ns k True) (omega arith) (t k h) in
    subst (λ z. In z ns)
    (same_meaning (meanings ns) (get_or ns k True) n o g (subst (λ j. Fits j n) (sym e) f) (sym (mean_at ns k h (t k h)) ∙ r.2 bottom))
    (get_or_in ns k True h)

-- a tidy list stays so with a node behind it that fits
pub tidy_push : (ns : List Node) (n : Node) → Tidy ns → Fits (length ns) n → Tidy (ns ++ (n ∷ []))
tidy_push ns n t f k h = elim (push_at ns n k h) [
  | inl p ↦ subst (Fits k) (sym (p.1 True)) (t k p.0)
  | inr p ↦ subst (Fits k) (sym (p.1 True)) (subst (λ j. Fits j n) (sym p.0) f)
]

-- r is ns with the formulae fs numbered behind it, and the number of χ
pub record Numbered (χ : Formula ℕ) (fs : List (Formula ℕ)) (ns : List Node) (r : List Node × ℕ) : Type 0 where
  pub begins : (rest : List Node) × (r.0 ≡ ns ++ rest)
  pub inside : r.1 < length r.0
  pub means : get_or (meanings r.0) r.1 bottom ≡ χ
  pub adds : meanings r.0 ≡ added_all same_formula (meanings ns) fs
  pub tidy : Tidy r.0
  pub once : Once (meanings r.0)

-- one numbering after another
pub numbered_after : (φ χ : Formula ℕ) (es fs : List (Formula ℕ)) (ns : List Node) (q r : List Node × ℕ)
    → Numbered φ es ns q → Numbered χ fs q.0 r → Numbered χ (es ++ fs) ns r
numbered_after φ χ es fs ns q r a b = record {
  begins = (a.begins.0 ++ b.begins.0, b.begins.1 ∙ ap (λ l. l ++ b.begins.0) a.begins.1 ∙ append_assoc ns a.begins.0 b.begins.0);
  inside = b.inside;
  means = b.means;
  adds = b.adds ∙ ap (λ l. added_all same_formula l fs) a.adds ∙ sym (added_all_append same_formula same_formula_decides (meanings ns) es fs);
  tidy = b.tidy;
  once = b.once;
}

-- a number below keeps its meaning when more are numbered
pub means_after : (χ : Formula ℕ) (fs : List (Formula ℕ)) (ns : List Node) (r : List Node × ℕ) (k : ℕ)
    → Numbered χ fs ns r → k < length ns → get_or (meanings r.0) k bottom ≡ get_or (meanings ns) k bottom
means_after χ fs ns r k a h =
    let f = meanings_front ns a.begins.0 in
    ap (λ l. get_or l k bottom) (ap meanings a.begins.1 ∙ f.1) ∙ get_or_append_left (meanings ns) f.0 bottom k (omega (arith, length_meanings ns))

-- a node that is there keeps its number
put_old : (ns : List Node) (n : Node) → Tidy ns → Once (meanings ns) → In n ns
    → Numbered (meaning_of (meanings ns) n) (meaning_of (meanings ns) n ∷ []) ns (ns, position same_node n ns)
put_old ns n t o i =
    let k = position same_node n ns in
    let h = in_position same_node same_node_decides n ns i in
    record {
      begins = ([], sym (append-nil ns));
      inside = h;
      means = mean_at ns k h (t k h) ∙ ap (meaning_of (meanings ns)) (position_at same_node same_node_decides n ns h True);
      adds = sym (added_old same_formula same_formula_decides (meanings ns) _ (node_meant ns n t i));
      tidy = t;
      once = o;
    }

-- a new node has the next number
put_new : (ns : List Node) (n : Node) → Tidy ns → Once (meanings ns) → Fits (length ns) n → (In n ns → ⊥)
    → Numbered (meaning_of (meanings ns) n) (meaning_of (meanings ns) n ∷ []) ns (ns ++ (n ∷ []), length ns)
put_new ns n t o f out =
    let m = meanings ns in
    let a : meanings (ns ++ (n ∷ [])) ≡ added same_formula m (meaning_of m n) =
    meanings_push [] ns n ∙ sym (added_new same_formula same_formula_decides m (meaning_of m n) (λ i. out (meant_node ns n t o f i))) in
    record {
      begins = (n ∷ [], refl);
      inside = omega (arith, length_push ns n);
      means = ap (λ l. get_or l (length ns) bottom) (meanings_push [] ns n) ∙ get_or_push m (meaning_of m n) bottom (length ns) (length_meanings ns);
      adds = a;
      tidy = tidy_push ns n t f;
      once = subst Once (sym a) (added_once same_formula same_formula_decides m (meaning_of m n) o);
    }

-- putting a node whose parts are numbered adds what it spells
pub put_numbered : (ns : List Node) (n : Node) → Tidy ns → Once (meanings ns) → Fits (length ns) n
    → Numbered (meaning_of (meanings ns) n) (meaning_of (meanings ns) n ∷ []) ns (put n ns)
put_numbered ns n t o f = elim (in_or same_node same_node_decides n ns) [
  | inl i ↦ subst (Numbered _ _ ns) (λ x. (sym (added_old same_node same_node_decides ns n i) x, position same_node n ns)) (put_old ns n t o i)
  | inr i ↦ subst (Numbered _ _ ns) (λ x. (sym (added_new same_node same_node_decides ns n i) x, sym (position_none same_node same_node_decides n ns i) x))
      (put_new ns n t o f i)
]

-- the same, where it is known what the node spells
put_as : (ns : List Node) (n : Node) (χ : Formula ℕ) → Tidy ns → Once (meanings ns) → Fits (length ns) n → meaning_of (meanings ns) n ≡ χ
    → Numbered χ (χ ∷ []) ns (put n ns)
put_as ns n χ t o f e = subst (λ z. Numbered z (z ∷ []) ns (put n ns)) e (put_numbered ns n t o f)

-- numbering makes no list shorter
pub numbered_length : (χ : Formula ℕ) (fs : List (Formula ℕ)) (ns : List Node) (r : List Node × ℕ) → Numbered χ fs ns r → length ns ≤ length r.0
numbered_length χ fs ns r a = omega (arith, ap length a.begins.1, length-append ns a.begins.0)

-- a node with one part
number_one : (φ χ : Formula ℕ) (n : Node) (ns : List Node) (r : List Node × ℕ) → Numbered φ (ends φ) ns r
    → Fits (length r.0) n → meaning_of (meanings r.0) n ≡ χ → Numbered χ (ends φ ++ (χ ∷ [])) ns (put n r.0)
number_one φ χ n ns r a f e = numbered_after φ χ (ends φ) (χ ∷ []) ns r (put n r.0) a (put_as r.0 n χ a.tidy a.once f e)

-- a node with two parts
number_two : (φ ψ χ : Formula ℕ) (n : Node) (ns : List Node) (r s : List Node × ℕ) → Numbered φ (ends φ) ns r → Numbered ψ (ends ψ) r.0 s
    → Fits (length s.0) n → meaning_of (meanings s.0) n ≡ χ → Numbered χ (ends φ ++ (ends ψ ++ (χ ∷ []))) ns (put n s.0)
number_two φ ψ χ n ns r s a b f e =
    numbered_after φ χ (ends φ) (ends ψ ++ (χ ∷ [])) ns r (put n s.0) a (number_one ψ χ n r.0 s b f e)

-- both parts have numbers below the list's length
two_fit : (φ ψ : Formula ℕ) (ns : List Node) (r s : List Node × ℕ) → Numbered φ (ends φ) ns r → Numbered ψ (ends ψ) r.0 s
    → (r.1 < length s.0) × (s.1 < length s.0)
two_fit φ ψ ns r s a b = let h = a.inside in (omega (arith, numbered_length ψ (ends ψ) r.0 s b), b.inside)

-- the first part means what it did when the second is numbered
first_means : (φ ψ : Formula ℕ) (ns : List Node) (r s : List Node × ℕ) → Numbered φ (ends φ) ns r → Numbered ψ (ends ψ) r.0 s
    → get_or (meanings s.0) r.1 bottom ≡ φ
first_means φ ψ ns r s a b = means_after ψ (ends ψ) r.0 s r.1 b a.inside ∙ a.means

-- numbering a formula behind a tidy list without repetition adds its subformulae in the order of their ends
pub numbered : (φ : Formula ℕ) (ns : List Node) → Tidy ns → Once (meanings ns) → Numbered φ (ends φ) ns (number_on φ ns)
numbered top ns t o = put_as ns True top t o tt refl
numbered bottom ns t o = put_as ns False bottom t o tt refl
numbered (atom a) ns t o = put_as ns (Atom a) (atom a) t o tt refl
numbered (negated a) ns t o = put_as ns (NotAtom a) (negated a) t o tt refl
numbered (both φ ψ) ns t o =
    let r = number_on φ ns in
    let s = number_on ψ r.0 in
    let a : Numbered φ (ends φ) ns r = numbered φ ns t o in
    let b : Numbered ψ (ends ψ) r.0 s = numbered ψ r.0 a.tidy a.once in
    number_two φ ψ (both φ ψ) (And r.1 s.1) ns r s a b (two_fit φ ψ ns r s a b) (λ x. both (first_means φ ψ ns r s a b x) (b.means x))
numbered (either φ ψ) ns t o =
    let r = number_on φ ns in
    let s = number_on ψ r.0 in
    let a : Numbered φ (ends φ) ns r = numbered φ ns t o in
    let b : Numbered ψ (ends ψ) r.0 s = numbered ψ r.0 a.tidy a.once in
    number_two φ ψ (either φ ψ) (Or r.1 s.1) ns r s a b (two_fit φ ψ ns r s a b) (λ x. either (first_means φ ψ ns r s a b x) (b.means x))
numbered (eventually φ) ns t o =
    let r = number_on φ ns in
    let a : Numbered φ (ends φ) ns r = numbered φ ns t o in
    number_one φ (eventually φ) (Eventually r.1) ns r a a.inside (ap eventually a.means)
numbered (always φ) ns t o =
    let r = number_on φ ns in
    let a : Numbered φ (ends φ) ns r = numbered φ ns t o in
    number_one φ (always φ) (Always r.1) ns r a a.inside (ap always a.means)

-- a formula's own nodes
pub arena_numbered : (φ : Formula ℕ) → Numbered φ (ends φ) [] (number_on φ [])
arena_numbered φ = numbered φ [] (λ k h. let z : ⊥ = omega arith in absurd z) once_nil

-- the distinct subformulae are those before the formula, and the formula
pub subformulae_last : (φ : Formula ℕ) → (pre : List (Formula ℕ)) × (subformulae φ ≡ pre ++ (φ ∷ []))
subformulae_last φ =
    let p = ends_last φ in
    let out : In φ (firsts same_formula p.0) → ⊥ = λ i. elim (added_all_from same_formula same_formula_decides [] p.0 φ i)
    [ inl a ↦ a | inr b ↦ (let h = p.2 φ b in omega arith) ] in (
      firsts same_formula p.0,
      ap (firsts same_formula) p.1 ∙ added_all_append same_formula same_formula_decides [] p.0 (φ ∷ [])
          ∙ added_new same_formula same_formula_decides (firsts same_formula p.0) φ out,
    )

-- number k stands in the formula
pub nth_within : (φ : Formula ℕ) (k : ℕ) → k < length (subformulae φ) → Within (nth φ k) φ
nth_within φ k h = ends_within (nth φ k) φ ((firsts_orders same_formula same_formula_decides (ends φ)).from (nth φ k) (get_or_in (subformulae φ) k bottom h))

-- there are as many nodes as distinct subformulae
arena_count : (φ : Formula ℕ) → length (arena φ) ≡ length (subformulae φ)
arena_count φ = sym (length_meanings (arena φ)) ∙ ap length (arena_numbered φ).adds

-- the last node spells the formula
arena_last : (φ : Formula ℕ) → root (arena φ) ≡ φ
arena_last φ =
    let p = subformulae_last φ in
    ap (λ l. get_or l (length (arena φ) - 1) bottom) ((arena_numbered φ).adds ∙ p.1)
    ∙ get_or_push p.0 φ bottom (length (arena φ) - 1) (omega (arith, arena_count φ, ap length p.1, length_push p.0 φ))

-- parts have smaller numbers, and atoms stay below their bound
arena_sound : (φ : Formula ℕ) (n : ℕ) → Below n φ → all_sound n 0 (arena φ) ≡ true
arena_sound φ n b = all_sound_each n 0 (arena φ) each
  where
    each : (i : ℕ) → i < length (arena φ) → sound n (0 + i) (get_or (arena φ) i True) ≡ true
    each i h =
        let a = arena_numbered φ in
        let w : Within (nth φ i) φ = nth_within φ i (omega (arith, arena_count φ)) in
        let e : nth φ i ≡ meaning_of (meanings (arena φ)) (get_or (arena φ) i True) =
        ap (λ l. get_or l i bottom) (sym a.adds) ∙ mean_at (arena φ) i h (a.tidy i h) in
        subst (λ j. sound n j (get_or (arena φ) i True) ≡ true) (omega arith)
        (fits_sound n i (meanings (arena φ)) (get_or (arena φ) i True) (a.tidy i h) (subst (Below n) e (within_below n (nth φ i) φ w b)))

-- the numbering is what it is said to be
pub numbering : Numbering
numbering φ = record {
  spells = (arena_numbered φ).adds;
  count = arena_count φ;
  some = (let h = (arena_numbered φ).inside in omega arith);
  last = arena_last φ;
  stands = nth_within φ;
  listed = λ ψ w.
      let r = in_get_or ψ (subformulae φ) ((firsts_orders same_formula same_formula_decides (ends φ)).has ψ (within_ends ψ φ w)) in (r.0, r.1, r.2 bottom);
  once = λ j k h l e. firsts_once same_formula same_formula_decides (ends φ) j k h l bottom e;
  order = λ j k h l. (firsts_orders same_formula same_formula_decides (ends φ)).climbs j k bottom h l;
  inner = arena_sound φ;
}
