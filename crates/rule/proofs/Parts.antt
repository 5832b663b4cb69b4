-- What each subformula of a rule is written as.
use Rattle.std.proofs.Common.{◌≡◌, ℕ, ◌+◌, ◌<◌, ◌≤◌, cond, List, [], ◌∷◌, ◌++◌, length, get_or, drop, Ok, sym, refl, ap, ◌∙◌, subst, arith, length-append}
use Rattle.std.proofs.lemmas.List.{append-nil, append_assoc}
use Rattle.std.proofs.lemmas.Bool.{lt-ltb, le-ltb}
use Rattle.refusal.specs.declared.Layer.TheVariants as Refuser
use Rattle.refusal.specs.Answers.{refused}
use Rattle.ltl.specs.declared.Node.{Node}
use Rattle.ltl.specs.declared.Node.TheVariants.{True, False, Atom, NotAtom, And, Or, Eventually, Always}
use Rattle.ltl.specs.Formula.{Formula}
use Rattle.ltl.specs.Formula.Formula.{top, bottom, atom, negated, both, either, eventually, always}
use Rattle.ltl.specs.Arena.{meaning_of, meanings}
use Rattle.ltl.proofs.Meanings.{Fits, mean_at, sound_tidy}
use Rattle.grammar.specs.Writing.{named, written_on}
use Rattle.rule.specs.declared.held.Rule.{Rule}
use Rattle.rule.specs.Rules.{nodes_in, names_in}
use Rattle.rule.specs.Written.{part_in, word_in, writing, written_into}

-- two joined formulae: both written, with the brackets and the mark
joined : (m : ℕ) (φ ψ : Formula (List ℕ)) → ((l : List ℕ) → written_on φ l ≡ written_on φ [] ++ l) → ((l : List ℕ) → written_on ψ l ≡ written_on ψ [] ++ l)
    → (rest : List ℕ) → 40 ∷ written_on φ (m ∷ written_on ψ (41 ∷ rest)) ≡ 40 ∷ (written_on φ [] ++ (m ∷ (written_on ψ [] ++ (41 ∷ rest))))
joined m φ ψ f g rest = ap (λ l. 40 ∷ l) (f (m ∷ written_on ψ (41 ∷ rest)) ∙ ap (λ l. written_on φ [] ++ (m ∷ l)) (g (41 ∷ rest)))

-- brackets, mark and parts before a rest
joined_rest : (m : ℕ) (p q rest : List ℕ) → 40 ∷ (p ++ (m ∷ (q ++ (41 ∷ rest)))) ≡ (40 ∷ (p ++ (m ∷ (q ++ (41 ∷ []))))) ++ rest
joined_rest m p q rest = simp append_assoc

-- what stands behind a written formula is only put behind it
pub written_rest : (φ : Formula (List ℕ)) (rest : List ℕ) → written_on φ rest ≡ written_on φ [] ++ rest
written_rest top rest = refl
written_rest bottom rest = refl
written_rest (atom w) rest = simp append_assoc
written_rest (negated w) rest = simp append_assoc
written_rest (both φ ψ) rest =
    joined 38 φ ψ (written_rest φ) (written_rest ψ) rest ∙ joined_rest 38 (written_on φ []) (written_on ψ []) rest
    ∙ ap (λ l. l ++ rest) (sym (joined 38 φ ψ (written_rest φ) (written_rest ψ) []))
written_rest (either φ ψ) rest =
    joined 124 φ ψ (written_rest φ) (written_rest ψ) rest ∙ joined_rest 124 (written_on φ []) (written_on ψ []) rest
    ∙ ap (λ l. l ++ rest) (sym (joined 124 φ ψ (written_rest φ) (written_rest ψ) []))
written_rest (eventually φ) rest = ap (λ l. 70 ∷ l) (written_rest φ rest)
written_rest (always φ) rest = ap (λ l. 71 ∷ l) (written_rest φ rest)

-- what a node is written as, its parts being written
abbrev pub node_in : Rule → Node → List ℕ
node_in r True = 116 ∷ 116 ∷ []
node_in r False = 102 ∷ 102 ∷ []
node_in r (Atom a) = get_or (names_in r) a []
node_in r (NotAtom a) = 33 ∷ get_or (names_in r) a []
node_in r (And i j) = 40 ∷ (part_in r i ++ (38 ∷ (part_in r j ++ (41 ∷ []))))
node_in r (Or i j) = 40 ∷ (part_in r i ++ (124 ∷ (part_in r j ++ (41 ∷ []))))
node_in r (Eventually i) = 70 ∷ part_in r i
node_in r (Always i) = 71 ∷ part_in r i

-- subformula k with the names themselves
abbrev meant : Rule → ℕ → Formula (List ℕ)
meant r k = named (names_in r) (get_or (meanings (nodes_in r)) k bottom)

-- what a node spells is written so
node_written : (r : Rule) (n : Node) → written_on (named (names_in r) (meaning_of (meanings (nodes_in r)) n)) [] ≡ node_in r n
node_written r True = refl
node_written r False = refl
node_written r (Atom a) = simp append-nil
node_written r (NotAtom a) = simp append-nil
node_written r (And i j) = joined 38 (meant r i) (meant r j) (written_rest (meant r i)) (written_rest (meant r j)) []
node_written r (Or i j) = joined 124 (meant r i) (meant r j) (written_rest (meant r i)) (written_rest (meant r j)) []
node_written r (Eventually i) = refl
node_written r (Always i) = refl

-- how many bytes a node has when it is written
abbrev pub width_in : Rule → Node → ℕ
width_in r True = 2
width_in r False = 2
width_in r (Atom a) = length (get_or (names_in r) a [])
width_in r (NotAtom a) = 1 + length (get_or (names_in r) a [])
width_in r (And i j) = 3 + length (part_in r i) + length (part_in r j)
width_in r (Or i j) = 3 + length (part_in r i) + length (part_in r j)
width_in r (Eventually i) = 1 + length (part_in r i)
width_in r (Always i) = 1 + length (part_in r i)

-- brackets and a mark are three bytes
length_joined : (m : ℕ) (p q : List ℕ) → length (40 ∷ (p ++ (m ∷ (q ++ (41 ∷ []))))) ≡ 3 + length p + length q
length_joined m p q = simp length-append (omega arith)

-- a written node has that many bytes
node_width : (r : Rule) (n : Node) → length (node_in r n) ≡ width_in r n
node_width r True = refl
node_width r False = refl
node_width r (Atom a) = refl
node_width r (NotAtom a) = omega arith
node_width r (And i j) = length_joined 38 (part_in r i) (part_in r j)
node_width r (Or i j) = length_joined 124 (part_in r i) (part_in r j)
node_width r (Eventually i) = omega arith
node_width r (Always i) = omega arith

-- subformula k is the node n, written: its bytes, how many they are, and that its parts come before it
pub record Part (r : Rule) (k : ℕ) (n : Node) : Type 0 where
  pub is : part_in r k ≡ node_in r n
  pub width : length (part_in r k) ≡ width_in r n
  pub fits : Fits k n

-- subformula k is node k, written; i is k as it is looked up
pub part_at : (r : Rule) (k : ℕ) {i : ℕ} {m n : Node} → k < length (nodes_in r) → i ≡ k → m ≡ get_or (nodes_in r) i True → m ≡ n → Part r k n
part_at r k {i} {m} {n} inside place found is_n =
    let same : get_or (nodes_in r) k True ≡ n = ap (λ j. get_or (nodes_in r) j True) (sym place) ∙ sym found ∙ is_n in
    let fits = sound_tidy (length (names_in r)) (nodes_in r) r.sound k inside in
    let is : part_in r k ≡ node_in r n =
    ap (λ φ. written_on (named (names_in r) φ) []) (mean_at (nodes_in r) k inside fits ∙ ap (meaning_of (meanings (nodes_in r))) same) ∙ node_written r n in
    record { is = is; width = ap length is ∙ node_width r n; fits = subst (Fits k) same fits }

-- an output too short for the rule is refused and stays as it is
pub too_short : (r : Rule) (xs : List ℕ) → length xs < length (word_in r) → (writing r (length xs) ≡ refused 20 Refuser.Rule 0) × (written_into r xs ≡ xs)
too_short r xs h =
    let e = lt-ltb (length xs) (length (word_in r)) h in
    (ap (λ b. cond b (refused 20 Refuser.Rule 0) (Ok (length (word_in r)))) e, ap (λ b. cond b xs (word_in r ++ drop (length (word_in r)) xs)) e)

-- an output that is long enough has the rule in front
pub long_enough : (r : Rule) (xs : List ℕ) → length (word_in r) ≤ length xs
    → (writing r (length xs) ≡ Ok (length (word_in r))) × (written_into r xs ≡ word_in r ++ drop (length (word_in r)) xs)
long_enough r xs h =
    let e = le-ltb (length xs) (length (word_in r)) h in
    (ap (λ b. cond b (refused 20 Refuser.Rule 0) (Ok (length (word_in r)))) e, ap (λ b. cond b xs (word_in r ++ drop (length (word_in r)) xs)) e)
