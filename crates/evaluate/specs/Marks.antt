-- The working row: a word for each letter, whose bit k says that subformula k holds there.
use Rattle.std.specs.Prelude.{◌≡◌, ℕ, ◌+◌, ◌^◌, ◌<◌, Bool, true, false, cond, not, ◌&&◌, ◌||◌, List, length, map, Decides, slice_index, slice_index_or}
use Rattle.ltl.specs.declared.Node.{Node}
use Rattle.ltl.specs.declared.Node.TheVariants.{True, False, Atom, NotAtom, And, Or, Eventually, Always}
use Rattle.ltl.specs.Formula.Formula.{bottom}
use Rattle.ltl.specs.Words.{bit, Sat}
use Rattle.ltl.specs.Rounds.{spelling}
use Rattle.ltl.specs.Arena.{meanings}

-- whether a subformula holds at a position, from the letter, the bits of the smaller numbers there, and whether it holds at the next position
abbrev pub value : Node → ℕ → ℕ → Bool → Bool
value True letter word next = true
value False letter word next = false
value (Atom a) letter word next = bit a letter
value (NotAtom a) letter word next = not (bit a letter)
value (And i j) letter word next = bit i word && bit j word
value (Or i j) letter word next = bit i word || bit j word
value (Eventually i) letter word next = bit i word || next
value (Always i) letter word next = bit i word && next

-- b says whether an F or a G holds throughout the cycle, whose words these are
abbrev pub Settled : Node → List ℕ → Bool → Type 0
Settled True words b = Unit {0}
Settled False words b = Unit {0}
Settled (Atom a) words b = Unit {0}
Settled (NotAtom a) words b = Unit {0}
Settled (And i j) words b = Unit {0}
Settled (Or i j) words b = Unit {0}
Settled (Eventually i) words b = Decides b ((j : ℕ) × (j < length words) × (bit i (slice_index words j) ≡ true))
Settled (Always i) words b = Decides b ((j : ℕ) → j < length words → bit i (slice_index words j) ≡ true)

-- each word is below 2 ^ k
abbrev pub Below : ℕ → List ℕ → Type 0
Below k words = (i : ℕ) → i < length words → slice_index words i < 2 ^ k

-- bit k was put into each word where p says so of the place
pub record Marked (k : ℕ) (p : ℕ → Bool) (words now : List ℕ) : Type 0 where
  pub size : length now ≡ length words
  pub inside : (i : ℕ) → i < length words → slice_index now i ≡ slice_index words i + cond (p i) (2 ^ k) 0

-- the cycle's words with the bit of a node, an F or G being the same throughout
pub record Cycled (node : Node) (k : ℕ) (cycle words now : List ℕ) : Type 0 where
  pub settled : Bool
  pub told : Settled node words settled
  pub marked : Marked k (λ i. value node (slice_index cycle i) (slice_index words i) settled) words now

-- the lead-in's words with the bit of a node, each from the word behind it; behind the last one it is told
abbrev pub Led : Node → ℕ → List ℕ → Bool → List ℕ → List ℕ → Type 0
Led node k lead behind words now = Marked k (λ i. value node (slice_index lead i) (slice_index words i) (slice_index_or (map (bit k) now) (i + 1) behind)) words now

-- every word has the bits below k and no others, and each says whether its subformula holds there
pub record Told (ns : List Node) (lead cycle : List ℕ) (k : ℕ) (row : List ℕ) : Type 0 where
  pub size : length row ≡ length lead + length cycle
  pub small : Below k row
  pub right : (m i : ℕ) → m < k → i < length row → Decides (bit m (slice_index row i)) (Sat (slice_index_or (meanings ns) m bottom) (spelling lead cycle) i)
