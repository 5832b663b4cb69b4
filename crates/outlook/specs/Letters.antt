-- Letters as the bits of one word: bit a says something of letter a, for all 64 letters at once.
use Rattle.std.specs.Prelude.{◌≡◌, ℕ, ◌+◌, ◌-◌, ◌^◌, ◌<◌, Bool, false, cond, List, bit_and, bit_or, slice_index, slice_index_or}
use Rattle.ltl.specs.declared.Node.{Node}
use Rattle.ltl.specs.declared.Node.TheVariants.{True, False, Atom, NotAtom, And, Or, Eventually, Always}
use Rattle.ltl.specs.Words.{bit}
use Rattle.bits.specs.Gathered.{gathered}
use Rattle.forecast.specs.Forecasts.{kept, renewed, values}
use Rattle.outlook.specs.declared.deciding.Deciding.{Deciding}
use Rattle.outlook.specs.declared.deciding.Deciding.TheVariants.{Kept, Renewed}

-- the letters at which a test passes
abbrev pub letters_where : (ℕ → Bool) → ℕ
letters_where test = gathered test 0 64

-- how temporal nodes are decided
abbrev pub how_of : Deciding → Node → Bool → Bool → Bool
how_of Kept = kept
how_of Renewed = renewed

-- every letter, or none
abbrev pub all_letters_if : Bool → ℕ
all_letters_if b = cond b (2 ^ 64 - 1) 0

-- the letters by the forecast alone, or those decided anew
abbrev pub decided_by : Deciding → ℕ → ℕ → ℕ
decided_by Kept kept renewed = kept
decided_by Renewed kept renewed = renewed

-- the letters of a node, from those of the nodes before it and, if it is temporal, whether it is forecast
abbrev pub held_by : Deciding → List ℕ → Node → Bool → ℕ
held_by d ws True b = 2 ^ 64 - 1
held_by d ws False b = 0
held_by d ws (Atom k) b = letters_where (bit k)
held_by d ws (NotAtom k) b = 2 ^ 64 - 1 - letters_where (bit k)
held_by d ws (And i j) b = bit_and (slice_index ws i) (slice_index ws j)
held_by d ws (Or i j) b = bit_or (slice_index ws i) (slice_index ws j)
held_by d ws (Eventually q) b = decided_by d (all_letters_if b) (bit_or (slice_index ws q) (all_letters_if b))
held_by d ws (Always q) b = decided_by d (all_letters_if b) (bit_and (slice_index ws q) (all_letters_if b))

-- the first m words are the letters at which the first m nodes have the value true
abbrev pub Told : Deciding → List Node → ℕ → ℕ → List ℕ → Type 0
Told d ns J m ws = (k : ℕ) → k < m → slice_index ws k ≡ letters_where (λ a. slice_index_or (values (how_of d) ns a J) k false)

-- bit `rank` added to the number of each letter in the word, below so many letters
abbrev pub Added : ℕ → ℕ → ℕ → List ℕ → List ℕ → Type 0
Added word rank letters row after = (a : ℕ) → a < letters → slice_index after a ≡ slice_index row a + cond (bit a word) (2 ^ rank) 0
