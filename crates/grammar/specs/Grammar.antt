-- The grammar of rules, over marks without their places; the names of a formula here are their bytes.
use Rattle.std.specs.Prelude.{◌≡◌, ℕ, suc, ◌<◌, List, [], ◌∷◌, ◌++◌, length, take}
use Rattle.ltl.specs.Formula.{Formula}
use Rattle.ltl.specs.Formula.Formula.{top, bottom, atom, negated, both, either, eventually, always}
use Rattle.grammar.specs.Marks.{Mark}
use Rattle.grammar.specs.Marks.Mark.{verum, falsum, name, negation, finally, globally, opening, conjunction, disjunction, closing}

-- the marks begin with a spelling of the formula, and `rest` is what stands behind it
pub data Spells : Formula (List ℕ) → List Mark → List Mark → Type 0 where
  spell_top : {rest : List Mark} → Spells top (verum ∷ rest) rest
  spell_bottom : {rest : List Mark} → Spells bottom (falsum ∷ rest) rest
  spell_atom : {w : List ℕ} {rest : List Mark} → Spells (atom w) (name w ∷ rest) rest
  spell_negated : {w : List ℕ} {rest : List Mark} → Spells (negated w) (negation ∷ name w ∷ rest) rest
  spell_eventually : {φ : Formula (List ℕ)} {ms rest : List Mark} → Spells φ ms rest → Spells (eventually φ) (finally ∷ ms) rest
  spell_always : {φ : Formula (List ℕ)} {ms rest : List Mark} → Spells φ ms rest → Spells (always φ) (globally ∷ ms) rest
  spell_both : {φ ψ : Formula (List ℕ)} {ms ns rest : List Mark} → Spells φ ms (conjunction ∷ ns) → Spells ψ ns (closing ∷ rest) → Spells (both φ ψ) (opening ∷ ms) rest
  spell_either : {φ ψ : Formula (List ℕ)} {ms ns rest : List Mark} → Spells φ ms (disjunction ∷ ns) → Spells ψ ns (closing ∷ rest) → Spells (either φ ψ) (opening ∷ ms) rest

abbrev pub IsRule : List Mark → Type 0
IsRule ms = (φ : Formula (List ℕ)) × Spells φ ms []

-- some rule begins with these marks
abbrev pub CanGoOn : List Mark → Type 0
CanGoOn ms = (more : List Mark) × IsRule (ms ++ more)

-- behind these marks of a rule, a rule begins at depth d
pub data Opens : ℕ → List Mark → Type 0 where
  here : Opens 1 []
  under_finally : {d : ℕ} {ms : List Mark} → Opens d ms → Opens (suc d) (finally ∷ ms)
  under_globally : {d : ℕ} {ms : List Mark} → Opens d ms → Opens (suc d) (globally ∷ ms)
  on_the_left : {d : ℕ} {ms : List Mark} → Opens d ms → Opens (suc d) (opening ∷ ms)
  right_of_and : {d : ℕ} {φ : Formula (List ℕ)} {ms ns : List Mark} → Spells φ ms (conjunction ∷ ns) → Opens d ns → Opens (suc d) (opening ∷ ms)
  right_of_or : {d : ℕ} {φ : Formula (List ℕ)} {ms ns : List Mark} → Spells φ ms (disjunction ∷ ns) → Opens d ns → Opens (suc d) (opening ∷ ms)

-- at mark i, or at the end where i is their number, no rule can go on
pub record Stuck (ms : List Mark) (i : ℕ) : Type 0 where
  pub before : CanGoOn (take i ms)
  pub at_mark : i < length ms → CanGoOn (take (suc i) ms) → ⊥
  pub at_end : i ≡ length ms → IsRule ms → ⊥
