-- The numbered formula: its distinct subformulae as a list of nodes, each naming its parts by smaller numbers.
use Rattle.std.specs.Prelude.{ℕ, suc, ◌-◌, Bool, true, false, ◌&&◌, List, [], ◌∷◌, ◌++◌, length, count_by, ◌==◌, nat_lt, slice_index_or}
use Rattle.ltl.specs.declared.Node.{Node}
use Rattle.ltl.specs.declared.Node.TheVariants.{True, False, Atom, NotAtom, And, Or, Eventually, Always}
use Rattle.ltl.specs.declared.Operator.{Operator}
use Rattle.ltl.specs.Formula.{Formula}
use Rattle.ltl.specs.Formula.Formula.{top, bottom, atom, negated, both, either, eventually, always}
use Rattle.ltl.specs.Lists.{position, added}

abbrev pub kind_of : Node → ℕ
kind_of True = 0
kind_of False = 1
kind_of (Atom a) = 2
kind_of (NotAtom a) = 3
kind_of (And i j) = 4
kind_of (Or i j) = 5
kind_of (Eventually i) = 6
kind_of (Always i) = 7

abbrev pub first_of : Node → ℕ
first_of True = 0
first_of False = 0
first_of (Atom a) = a
first_of (NotAtom a) = a
first_of (And i j) = i
first_of (Or i j) = i
first_of (Eventually i) = i
first_of (Always i) = i

abbrev pub second_of : Node → ℕ
second_of True = 0
second_of False = 0
second_of (Atom a) = 0
second_of (NotAtom a) = 0
second_of (And i j) = j
second_of (Or i j) = j
second_of (Eventually i) = 0
second_of (Always i) = 0

abbrev pub same_node : Node → Node → Bool
same_node m n = kind_of m == kind_of n && (first_of m == first_of n && second_of m == second_of n)

-- a node put behind a list of nodes unless it is there, and its number
abbrev pub put : Node → List Node → List Node × ℕ
put n ns = (added same_node ns n, position same_node n ns)

-- a formula's subformulae numbered behind those of ns, each when its last byte is read, and the formula's own number
abbrev pub number_on : Formula ℕ → List Node → List Node × ℕ
number_on top ns = put True ns
number_on bottom ns = put False ns
number_on (atom a) ns = put (Atom a) ns
number_on (negated a) ns = put (NotAtom a) ns
number_on (both φ ψ) ns = let r = number_on φ ns in let s = number_on ψ r.0 in put (And r.1 s.1) s.0
number_on (either φ ψ) ns = let r = number_on φ ns in let s = number_on ψ r.0 in put (Or r.1 s.1) s.0
number_on (eventually φ) ns = let r = number_on φ ns in put (Eventually r.1) r.0
number_on (always φ) ns = let r = number_on φ ns in put (Always r.1) r.0

abbrev pub arena : Formula ℕ → List Node
arena φ = (number_on φ []).0

-- the formula that a node spells, its parts being known
abbrev pub meaning_of : List (Formula ℕ) → Node → Formula ℕ
meaning_of known True = top
meaning_of known False = bottom
meaning_of known (Atom a) = atom a
meaning_of known (NotAtom a) = negated a
meaning_of known (And i j) = both (slice_index_or known i bottom) (slice_index_or known j bottom)
meaning_of known (Or i j) = either (slice_index_or known i bottom) (slice_index_or known j bottom)
meaning_of known (Eventually i) = eventually (slice_index_or known i bottom)
meaning_of known (Always i) = always (slice_index_or known i bottom)

abbrev pub meanings_on : List (Formula ℕ) → List Node → List (Formula ℕ)
meanings_on known [] = known
meanings_on known (n ∷ ns) = meanings_on (known ++ (meaning_of known n ∷ [])) ns

-- what the nodes spell, made from the front
abbrev pub meanings : List Node → List (Formula ℕ)
meanings ns = meanings_on [] ns

-- the formula that the last node spells
abbrev pub root : List Node → Formula ℕ
root ns = slice_index_or (meanings ns) (length ns - 1) bottom

abbrev pub join_node : Operator → ℕ → ℕ → Node
join_node Operator.And i j = And i j
join_node Operator.Or i j = Or i j

abbrev pub temporal : Node → Bool
temporal True = false
temporal False = false
temporal (Atom a) = false
temporal (NotAtom a) = false
temporal (And i j) = false
temporal (Or i j) = false
temporal (Eventually i) = true
temporal (Always i) = true

abbrev pub temporals : List Node → ℕ
temporals ns = count_by temporal ns

-- node number k names only smaller numbers, and atoms below n
abbrev pub sound : ℕ → ℕ → Node → Bool
sound n k True = true
sound n k False = true
sound n k (Atom a) = nat_lt a n
sound n k (NotAtom a) = nat_lt a n
sound n k (And i j) = nat_lt i k && nat_lt j k
sound n k (Or i j) = nat_lt i k && nat_lt j k
sound n k (Eventually i) = nat_lt i k
sound n k (Always i) = nat_lt i k

-- the same of each node of a list, numbered from k on
abbrev pub all_sound : ℕ → ℕ → List Node → Bool
all_sound n k [] = true
all_sound n k (x ∷ xs) = sound n k x && all_sound n (suc k) xs
