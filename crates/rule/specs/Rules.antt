-- What a rule says.
use Rattle.std.specs.Prelude.{◌≡◌, ℕ, List, Result}
use Rattle.ltl.specs.declared.Node.{Node}
use Rattle.ltl.specs.Formula.{Formula}
use Rattle.ltl.specs.Arena.{root, arena}
use Rattle.ltl.specs.Laws.{Numbers}
use Rattle.refusal.specs.Answers.{Said}
use Rattle.few.specs.Items.{items}
use Rattle.names.specs.Listed.{spelled_names}
use Rattle.grammar.specs.Laws.{Outcome}
use Rattle.rule.specs.declared.held.Rule.{Rule}

abbrev pub nodes_in : Rule → List Node
nodes_in r = items r.nodes

abbrev pub names_in : Rule → List (List ℕ)
names_in r = spelled_names r.names

-- the formula itself is the last subformula
abbrev pub formula_in : Rule → Formula ℕ
formula_in r = root (nodes_in r)

-- what came of a text is o exactly when o's condition holds
abbrev pub ByGrammar : List (List ℕ) → List ℕ → Result (List Node) Said → Type 0
ByGrammar names text came = (o : Result (List Node) Said) → (came ≡ o → Outcome names text o) × (Outcome names text o → came ≡ o)

-- the nodes are the distinct subformulae of one formula in the order of their last bytes
pub record Enumerates (r : Rule) : Type 0 where
  pub nodes : nodes_in r ≡ arena (formula_in r)
  pub numbers : Numbers (formula_in r)
