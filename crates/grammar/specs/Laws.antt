-- What reading and writing come to, in terms of the grammar.
use Rattle.std.specs.Prelude.{◌≡◌, ℕ, suc, ◌+◌, ◌<◌, ◌≤◌, true, false, ◌⊎◌, List, [], map, length, take, drop, Ok, count_by, Result, ◌≢◌, slice_index, slice_index_or}
use Rattle.refusal.specs.declared.Layer.TheVariants.{Rule}
use Rattle.refusal.specs.Answers.{Said, refused}
use Rattle.ltl.specs.declared.Node.{Node}
use Rattle.ltl.specs.Formula.{Formula, Below, depth, is_temporal, ends}
use Rattle.ltl.specs.Formula.Formula.{bottom}
use Rattle.ltl.specs.Arena.{arena}
use Rattle.ltl.specs.Laws.{subformulae}
use Rattle.names.specs.Names.{has, proper}
use Rattle.grammar.specs.Marks.{Mark, Placed, marks}
use Rattle.grammar.specs.Marks.Mark.{name, finish}
use Rattle.grammar.specs.Grammar.{Spells, CanGoOn, Opens, Stuck}
use Rattle.grammar.specs.Descent.{reading}
use Rattle.grammar.specs.Writing.{named, written}

abbrev pub marks_of : List ℕ → List Mark
marks_of text = map (λ (m : Placed). m.mark) (marks text)

-- the place of mark i, or the end of the text behind the last mark
abbrev pub place_of : List ℕ → ℕ → ℕ
place_of text i = slice_index_or (map (λ (m : Placed). m.place) (marks text)) i (length text)

-- mark i is a name that is not declared
abbrev pub Undeclared : List (List ℕ) → List Mark → ℕ → Type 0
Undeclared names ms i = (w : List ℕ) × (slice_index_or ms i finish ≡ name w) × (has names w ≡ false)

-- of the marks before mark i, none is an undeclared name
abbrev pub DeclaredBefore : List (List ℕ) → List Mark → ℕ → Type 0
DeclaredBefore names ms i = (j : ℕ) → j < i → j < length ms → Undeclared names ms j → ⊥

-- at no mark before mark i a rule begins at depth 25
abbrev pub ShallowBefore : List Mark → ℕ → Type 0
ShallowBefore ms i = (j : ℕ) → j < i → j < length ms → Opens 25 (take j ms) → ⊥

-- the text spells φ under the names, within the depth
pub record IsText (names : List (List ℕ)) (text : List ℕ) (φ : Formula ℕ) : Type 0 where
  pub short : length text ≤ 1024
  pub spelled : Spells (named names φ) (marks_of text) []
  pub known : Below (length names) φ
  pub shallow : depth φ ≤ 24

-- when a text has which outcome
pub data Outcome (names : List (List ℕ)) (text : List ℕ) : Result (List Node) Said → Type 0 where
  too_long : 1024 < length text → Outcome names text (refused 4 Rule 0)
  unexpected : (i : ℕ) → length text ≤ 1024 → i ≤ length (marks_of text) → Stuck (marks_of text) i → DeclaredBefore names (marks_of text) i → ShallowBefore (marks_of text) i → Outcome names text (refused 5 Rule (place_of text i))
  too_deep : (i : ℕ) → length text ≤ 1024 → i < length (marks_of text) → Opens 25 (take i (marks_of text)) → CanGoOn (take (suc i) (marks_of text)) → DeclaredBefore names (marks_of text) i → ShallowBefore (marks_of text) i → Outcome names text (refused 7 Rule (place_of text i))
  undeclared : (i : ℕ) → length text ≤ 1024 → i < length (marks_of text) → Undeclared names (marks_of text) i → CanGoOn (take (suc i) (marks_of text)) → DeclaredBefore names (marks_of text) i → ShallowBefore (marks_of text) (suc i) → Outcome names text (refused 6 Rule (place_of text i))
  too_many : (φ : Formula ℕ) → IsText names text φ → 32 < length (subformulae φ) → Outcome names text (refused 8 Rule 0)
  too_temporal : (φ : Formula ℕ) → IsText names text φ → length (subformulae φ) ≤ 32 → 8 < count_by is_temporal (subformulae φ) → Outcome names text (refused 9 Rule 0)
  read : (φ : Formula ℕ) → IsText names text φ → length (subformulae φ) ≤ 32 → count_by is_temporal (subformulae φ) ≤ 8 → Outcome names text (Ok (arena φ))

-- a text has an outcome exactly when its condition holds
abbrev pub Reading : Type 0
Reading = (names : List (List ℕ)) → proper names ≡ true → (text : List ℕ) (o : Result (List Node) Said) → (reading names text ≡ o → Outcome names text o) × (Outcome names text o → reading names text ≡ o)

-- what was read and is written reads as itself, has no blank and is no longer
pub record Returns (names : List (List ℕ)) (text : List ℕ) (ns : List Node) : Type 0 where
  pub again : reading names (written names ns) ≡ Ok ns
  pub no_blank : (i : ℕ) → i < length (written names ns) → slice_index (written names ns) i ≢ 32
  pub no_longer : length (written names ns) ≤ length text

abbrev pub RoundTrip : Type 0
RoundTrip = (names : List (List ℕ)) → proper names ≡ true → (text : List ℕ) (ns : List Node) → reading names text ≡ Ok ns → Returns names text ns

-- where the subformulae of a spelled formula stand among its marks, each place of `ends` from its first mark up to its last
pub record Stands (φ : Formula (List ℕ)) (ms rest : List Mark) : Type 0 where
  pub from : ℕ → ℕ
  pub upto : ℕ → ℕ
  -- each is spelled by its own marks
  pub spelled : (k : ℕ) → k < length (ends φ) → Spells (slice_index_or (ends φ) k bottom) (drop (from k) ms) (drop (upto k) ms)
  pub some : (k : ℕ) → k < length (ends φ) → from k < upto k
  pub inside : (k : ℕ) → k < length (ends φ) → upto k + length rest ≤ length ms
  -- they come in the order of their last marks; where two end together, the inner one first
  pub order : (j k : ℕ) → j < k → k < length (ends φ) → (upto j < upto k) ⊎ ((upto j ≡ upto k) × (from k < from j))

abbrev pub EndingOrder : Type 0
EndingOrder = (φ : Formula (List ℕ)) (ms rest : List Mark) → Spells φ ms rest → Stands φ ms rest
