-- What nodes spell, where each names smaller numbers.
use Rattle.std.proofs.Common.{◌≡◌, ℕ, zero, suc, ◌+◌, ◌<◌, ◌≤◌, true, ltb, List, [], ◌∷◌, ◌++◌, length, get_or, take, drop, sym, refl, ap, ◌∙◌, subst, arith}
use Rattle.std.proofs.lemmas.Bool.{lt-ltb, ltb-true, and_from, and_parts}
use Rattle.std.proofs.lemmas.List.{append-nil, append_assoc, length_push, length-take-le, take-append-drop, drop_more, get_or_at, get_or_append_left}
use Rattle.ltl.specs.declared.Node.{Node}
use Rattle.ltl.specs.declared.Node.TheVariants.{True, False, Atom, NotAtom, And, Or, Eventually, Always}
use Rattle.ltl.specs.Formula.{Formula, Below}
use Rattle.ltl.specs.Formula.Formula.{top, bottom, atom, negated, both, either, eventually, always}
use Rattle.ltl.specs.Lists.{position}
use Rattle.ltl.specs.Arena.{meaning_of, meanings_on, meanings, sound, all_sound}
use Rattle.ltl.specs.Laws.{same_formula}
use Rattle.ltl.proofs.Same.{same_formula_decides}
use Rattle.ltl.proofs.Once.{Once, position_once}

-- the parts of a node have numbers below k
abbrev pub Fits : ℕ → Node → Type 0
Fits k True = Unit {0}
Fits k False = Unit {0}
Fits k (Atom a) = Unit {0}
Fits k (NotAtom a) = Unit {0}
Fits k (And i j) = (i < k) × (j < k)
Fits k (Or i j) = (i < k) × (j < k)
Fits k (Eventually i) = i < k
Fits k (Always i) = i < k

-- the parts of each node come before it
abbrev pub Tidy : List Node → Type 0
Tidy ns = (k : ℕ) → k < length ns → Fits k (get_or ns k True)

-- what fits below k fits below more
pub fits_more : (j k : ℕ) (n : Node) → j ≤ k → Fits j n → Fits k n
fits_more j k True l f = tt
fits_more j k False l f = tt
fits_more j k (Atom a) l f = tt
fits_more j k (NotAtom a) l f = tt
fits_more j k (And a b) l f = omega arith
fits_more j k (Or a b) l f = omega arith
fits_more j k (Eventually a) l f = omega arith
fits_more j k (Always a) l f = omega arith

-- what a node spells depends only on what its parts spell
pub meaning_more : (known rest : List (Formula ℕ)) (n : Node) → Fits (length known) n → meaning_of (known ++ rest) n ≡ meaning_of known n
meaning_more known rest True f = refl
meaning_more known rest False f = refl
meaning_more known rest (Atom a) f = refl
meaning_more known rest (NotAtom a) f = refl
meaning_more known rest (And i j) f = λ x. both (get_or_append_left known rest bottom i f.0 x) (get_or_append_left known rest bottom j f.1 x)
meaning_more known rest (Or i j) f = λ x. either (get_or_append_left known rest bottom i f.0 x) (get_or_append_left known rest bottom j f.1 x)
meaning_more known rest (Eventually i) f = ap eventually (get_or_append_left known rest bottom i f)
meaning_more known rest (Always i) f = ap always (get_or_append_left known rest bottom i f)

-- the meanings of two lists joined: those of the second, the first's being known
pub meanings_append : (known : List (Formula ℕ)) (ms ns : List Node) → meanings_on known (ms ++ ns) ≡ meanings_on (meanings_on known ms) ns
meanings_append known [] ns = refl
meanings_append known (m ∷ ms) ns = meanings_append (known ++ (meaning_of known m ∷ [])) ms ns

-- one node more is one meaning more
pub meanings_push : (known : List (Formula ℕ)) (ns : List Node) (n : Node)
    → meanings_on known (ns ++ (n ∷ [])) ≡ meanings_on known ns ++ (meaning_of (meanings_on known ns) n ∷ [])
meanings_push known ns n = meanings_append known ns (n ∷ [])

-- what is known stays in front
pub meanings_begins : (known : List (Formula ℕ)) (ns : List Node) → (rest : List (Formula ℕ)) × (meanings_on known ns ≡ known ++ rest)
meanings_begins known [] = ([], sym (append-nil known))
meanings_begins known (n ∷ ns) =
    let r = meanings_begins (known ++ (meaning_of known n ∷ [])) ns in
    (meaning_of known n ∷ r.0, r.1 ∙ append_assoc known (meaning_of known n ∷ []) r.0)

-- the meanings of a front are the front of the meanings
pub meanings_front : (ms ns : List Node) → (rest : List (Formula ℕ)) × (meanings (ms ++ ns) ≡ meanings ms ++ rest)
meanings_front ms ns = let r = meanings_begins (meanings ms) ns in (r.0, meanings_append [] ms ns ∙ r.1)

-- each node adds one meaning
pub length_meanings_on : (known : List (Formula ℕ)) (ns : List Node) → length (meanings_on known ns) ≡ length known + length ns
length_meanings_on known [] = omega arith
length_meanings_on known (n ∷ ns) = omega (arith, length_meanings_on (known ++ (meaning_of known n ∷ [])) ns, length_push known (meaning_of known n))

-- a list of nodes has as many meanings
pub length_meanings : (ns : List Node) → length (meanings ns) ≡ length ns
length_meanings ns = omega (arith, length_meanings_on [] ns)

-- a node between others spells what it says of all meanings
mean_mid : (ms : List Node) (n : Node) (ns : List Node) → Fits (length ms) n
    → get_or (meanings (ms ++ (n ∷ ns))) (length ms) bottom ≡ meaning_of (meanings (ms ++ (n ∷ ns))) n
mean_mid ms n ns f =
    let m = meanings ms in
    let r = meanings_begins (m ++ (meaning_of m n ∷ [])) ns in
    let e : meanings (ms ++ (n ∷ ns)) ≡ m ++ (meaning_of m n ∷ r.0) =
    meanings_append [] ms (n ∷ ns) ∙ r.1 ∙ append_assoc m (meaning_of m n ∷ []) r.0 in
    ap (λ l. get_or l (length ms) bottom) e ∙ get_or_at m (meaning_of m n) r.0 bottom (length ms) (length_meanings ms)
    ∙ sym (meaning_more m (meaning_of m n ∷ r.0) n (subst (λ k. Fits k n) (sym (length_meanings ms)) f)) ∙ ap (λ l. meaning_of l n) (sym e)

-- meaning number k is what node number k says of the meanings
pub mean_at : (ns : List Node) (k : ℕ) → k < length ns → Fits k (get_or ns k True) → get_or (meanings ns) k bottom ≡ meaning_of (meanings ns) (get_or ns k True)
mean_at ns k h f =
    let n = get_or ns k True in
    let e : take k ns ++ (n ∷ drop (k + 1) ns) ≡ ns = ap (λ l. take k ns ++ l) (sym (drop_more ns k True h)) ∙ take-append-drop k ns in
    let l : length (take k ns) ≡ k = length-take-le k ns (omega arith) in
    subst (λ z. get_or (meanings z) k bottom ≡ meaning_of (meanings z) n) e
    (subst (λ j. get_or (meanings (take k ns ++ (n ∷ drop (k + 1) ns))) j bottom ≡ meaning_of (meanings (take k ns ++ (n ∷ drop (k + 1) ns))) n) l
    (mean_mid (take k ns) n (drop (k + 1) ns) (subst (λ j. Fits j n) (sym l) f)))

-- the node that spells a formula, its parts being listed
abbrev node_of : List (Formula ℕ) → Formula ℕ → Node
node_of known top = True
node_of known bottom = False
node_of known (atom a) = Atom a
node_of known (negated a) = NotAtom a
node_of known (both φ ψ) = And (position same_formula φ known) (position same_formula ψ known)
node_of known (either φ ψ) = Or (position same_formula φ known) (position same_formula ψ known)
node_of known (eventually φ) = Eventually (position same_formula φ known)
node_of known (always φ) = Always (position same_formula φ known)

-- where nothing is known twice, a node is told by what it spells
node_of_meaning : (known : List (Formula ℕ)) (n : Node) → Once known → Fits (length known) n → node_of known (meaning_of known n) ≡ n
node_of_meaning known True o f = refl
node_of_meaning known False o f = refl
node_of_meaning known (Atom a) o f = refl
node_of_meaning known (NotAtom a) o f = refl
node_of_meaning known (And i j) o f =
    λ x. And (position_once same_formula same_formula_decides known i bottom o f.0 x) (position_once same_formula same_formula_decides known j bottom o f.1 x)
node_of_meaning known (Or i j) o f =
    λ x. Or (position_once same_formula same_formula_decides known i bottom o f.0 x) (position_once same_formula same_formula_decides known j bottom o f.1 x)
node_of_meaning known (Eventually i) o f = ap Eventually (position_once same_formula same_formula_decides known i bottom o f)
node_of_meaning known (Always i) o f = ap Always (position_once same_formula same_formula_decides known i bottom o f)

-- nodes that spell the same are the same
pub same_meaning : (known : List (Formula ℕ)) (m n : Node) → Once known → Fits (length known) m → Fits (length known) n
    → meaning_of known m ≡ meaning_of known n → m ≡ n
same_meaning known m n o f g e = sym (node_of_meaning known m o f) ∙ ap (node_of known) e ∙ node_of_meaning known n o g

-- a node that fits and spells a formula with atoms below n is sound
pub fits_sound : (n k : ℕ) (known : List (Formula ℕ)) (x : Node) → Fits k x → Below n (meaning_of known x) → sound n k x ≡ true
fits_sound n k known True f b = refl
fits_sound n k known False f b = refl
fits_sound n k known (Atom a) f b = lt-ltb a n b
fits_sound n k known (NotAtom a) f b = lt-ltb a n b
fits_sound n k known (And i j) f b = and_from _ _ (lt-ltb i k f.0) (lt-ltb j k f.1)
fits_sound n k known (Or i j) f b = and_from _ _ (lt-ltb i k f.0) (lt-ltb j k f.1)
fits_sound n k known (Eventually i) f b = lt-ltb i k f
fits_sound n k known (Always i) f b = lt-ltb i k f

-- a sound node fits
pub sound_fits : (n k : ℕ) (x : Node) → sound n k x ≡ true → Fits k x
sound_fits n k True e = tt
sound_fits n k False e = tt
sound_fits n k (Atom a) e = tt
sound_fits n k (NotAtom a) e = tt
sound_fits n k (And i j) e = let p = and_parts (ltb i k) (ltb j k) e in (ltb-true i k p.0, ltb-true j k p.1)
sound_fits n k (Or i j) e = let p = and_parts (ltb i k) (ltb j k) e in (ltb-true i k p.0, ltb-true j k p.1)
sound_fits n k (Eventually i) e = ltb-true i k e
sound_fits n k (Always i) e = ltb-true i k e

-- a list is sound where each node is
pub all_sound_each : (n k : ℕ) (ns : List Node) → ((i : ℕ) → i < length ns → sound n (k + i) (get_or ns i True) ≡ true) → all_sound n k ns ≡ true
all_sound_each n k [] h = refl
all_sound_each n k (x ∷ ns) h = and_from _ _ (subst (λ j. sound n j x ≡ true) (omega arith) (h 0 (omega arith)))
    (all_sound_each n (suc k) ns (λ i l. subst (λ j. sound n j (get_or ns i True) ≡ true) (omega arith) (h (suc i) (omega arith))))

-- each node of a sound list is sound
pub all_sound_at : (n k : ℕ) (ns : List Node) → all_sound n k ns ≡ true → (i : ℕ) → i < length ns → sound n (k + i) (get_or ns i True) ≡ true
all_sound_at n k [] e i l = let z : ⊥ = omega arith in absurd z
all_sound_at n k (x ∷ ns) e zero l = subst (λ j. sound n j x ≡ true) (omega arith) (and_parts (sound n k x) (all_sound n (suc k) ns) e).0
all_sound_at n k (x ∷ ns) e (suc i) l =
    subst (λ j. sound n j (get_or ns i True) ≡ true) (omega arith) (all_sound_at n (suc k) ns (and_parts (sound n k x) (all_sound n (suc k) ns) e).1 i (omega arith))

-- a sound list is tidy
pub sound_tidy : (n : ℕ) (ns : List Node) → all_sound n 0 ns ≡ true → Tidy ns
sound_tidy n ns e k l = subst (λ j. Fits j (get_or ns k True)) (omega arith) (sound_fits n (0 + k) (get_or ns k True) (all_sound_at n 0 ns e k l))
