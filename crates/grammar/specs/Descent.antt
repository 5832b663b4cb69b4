-- Reading, as the panel does it: recursive descent over the marks, with the remaining depth as the falling number.
-- Laws says what it comes to.
use Rattle.std.specs.Prelude.{ℕ, zero, suc, Bool, true, false, cond, List, [], ◌∷◌, ◌++◌, length, Ok, Result, nat_lt}
use Rattle.std.specs.Str.{bytes_eq}
use Rattle.refusal.specs.declared.Layer.TheVariants.{Rule}
use Rattle.refusal.specs.Answers.{Said, refused, and_then}
use Rattle.ltl.specs.declared.Node.{Node}
use Rattle.ltl.specs.declared.Node.TheVariants.{True, False, Atom, NotAtom, Eventually, Always}
use Rattle.ltl.specs.declared.Operator.{Operator}
use Rattle.ltl.specs.Lists.{position}
use Rattle.ltl.specs.Arena.{same_node, join_node, temporals}
use Rattle.grammar.specs.Marks.{Mark, Placed, is_kind, begins, marks}
use Rattle.grammar.specs.Marks.Mark.{verum, falsum, name, negation, finally, globally, opening, conjunction, disjunction, closing, foreign, finish}

-- the nodes found so far, and whether one found no place among the 32
pub record Held : Type 0 where
  pub nodes : List Node
  pub over : Bool

abbrev pub nothing_held : Held
nothing_held = record { nodes = []; over = false }

-- what a node puts into the pool, and its number; past the last place the number says nothing
abbrev pub put : Node → Held → Held × ℕ
put n h =
    let k : ℕ = position same_node n h.nodes in
    cond (nat_lt k (length h.nodes)) (h, k)
    (cond (nat_lt (length h.nodes) 32) (record { nodes = h.nodes ++ (n ∷ []); over = h.over }, k) (record { nodes = h.nodes; over = true }, 0))

abbrev pub unexpected : {A : Type 0} → ℕ → Result A Said
unexpected p = refused 5 Rule p

pub record Lexed : Type 0 where
  pub mark : Mark
  pub place : ℕ
  pub rest : List Placed

-- one mark read at its place
abbrev pub seen : Mark → ℕ → List Placed → Result Lexed Said
seen m p ms = cond (is_kind foreign m) (unexpected p) (Ok (record { mark = m; place = p; rest = ms }))

-- the next mark; `stop` is the place of the text's end
abbrev pub lex : ℕ → List Placed → Result Lexed Said
lex stop [] = seen finish stop []
lex stop (m ∷ ms) = seen m.mark m.place ms

-- a subformula read: its number, the pool, the marks behind it
pub record Step : Type 0 where
  pub number : ℕ
  pub held : Held
  pub rest : List Placed

abbrev pub made : Node → Held → List Placed → Result Step Said
made n h ms = let r : Held × ℕ = put n h in Ok (record { number = r.1; held = r.0; rest = ms })

-- the number of a declared name
abbrev pub known : List (List ℕ) → List ℕ → ℕ → Result ℕ Said
known names w p = let k : ℕ = position bytes_eq w names in cond (nat_lt k (length names)) (Ok k) (refused 6 Rule p)

-- at depth 25 a mark that can begin a rule is too deep, and any other is unexpected as everywhere
abbrev pub too_deep_at : Lexed → Result Step Said
too_deep_at x = cond (begins x.mark) (refused 7 Rule x.place) (unexpected x.place)

-- the name behind a `!`
abbrev pub negated_name : List (List ℕ) → Held → Lexed → Mark → Result Step Said
negated_name names h x verum = unexpected x.place
negated_name names h x falsum = unexpected x.place
negated_name names h x (name w) = and_then (known names w x.place) (λ k. made (NotAtom k) h x.rest)
negated_name names h x negation = unexpected x.place
negated_name names h x finally = unexpected x.place
negated_name names h x globally = unexpected x.place
negated_name names h x opening = unexpected x.place
negated_name names h x conjunction = unexpected x.place
negated_name names h x disjunction = unexpected x.place
negated_name names h x closing = unexpected x.place
negated_name names h x foreign = unexpected x.place
negated_name names h x finish = unexpected x.place

-- what joins two rules, and the marks behind it
abbrev pub joint : Lexed → Result (Operator × List Placed) Said
joint x =
    cond (is_kind conjunction x.mark) (Ok (Operator.And, x.rest))
    (cond (is_kind disjunction x.mark) (Ok (Operator.Or, x.rest)) (unexpected x.place))

-- the marks behind one of the kind that is due
abbrev pub due : Mark → Lexed → Result (List Placed) Said
due m x = cond (is_kind m x.mark) (Ok x.rest) (unexpected x.place)

module _ (inner : Held → List Placed → Result Step Said) (names : List (List ℕ)) (stop : ℕ) where
  -- what stands in brackets
  abbrev pub joined : Held → List Placed → Result Step Said
  joined h ms =
      and_then (inner h ms) (λ a.
      and_then (and_then (lex stop a.rest) joint) (λ o.
      and_then (inner a.held o.1) (λ b.
      and_then (and_then (lex stop b.rest) (due closing)) (λ ms'.
      made (join_node o.0 a.number b.number) b.held ms'))))

  -- a rule from its first mark on, its parts read by `inner`
  abbrev pub rule_from : Held → Lexed → Mark → Result Step Said
  rule_from h x verum = made True h x.rest
  rule_from h x falsum = made False h x.rest
  rule_from h x (name w) = and_then (known names w x.place) (λ k. made (Atom k) h x.rest)
  rule_from h x negation = and_then (lex stop x.rest) (λ y. negated_name names h y y.mark)
  rule_from h x finally = and_then (inner h x.rest) (λ a. made (Eventually a.number) a.held a.rest)
  rule_from h x globally = and_then (inner h x.rest) (λ a. made (Always a.number) a.held a.rest)
  rule_from h x opening = joined h x.rest
  rule_from h x conjunction = unexpected x.place
  rule_from h x disjunction = unexpected x.place
  rule_from h x closing = unexpected x.place
  rule_from h x foreign = unexpected x.place
  rule_from h x finish = unexpected x.place

-- a rule with `left` levels of depth to go
unfoldable pub descend : ℕ → List (List ℕ) → ℕ → Held → List Placed → Result Step Said
descend zero names stop h ms = and_then (lex stop ms) too_deep_at
descend (suc left) names stop h ms = and_then (lex stop ms) (λ x. rule_from (descend left names stop) names stop h x x.mark)

-- a whole text: a rule and nothing behind it
abbrev pub whole_text : List (List ℕ) → List ℕ → Result Held Said
whole_text names text =
    and_then (descend 24 names (length text) nothing_held (marks text)) (λ s.
    and_then (and_then (lex (length text) s.rest) (due finish)) (λ _.
    Ok s.held))

-- at most 32 subformulae, of them at most 8 temporal
abbrev pub counted : Held → Result (List Node) Said
counted h = cond h.over (refused 8 Rule 0) (cond (nat_lt 8 (temporals h.nodes)) (refused 9 Rule 0) (Ok h.nodes))

-- what a text is read as: the numbered formula, or the refusal
abbrev pub reading : List (List ℕ) → List ℕ → Result (List Node) Said
reading names text = cond (nat_lt 1024 (length text)) (refused 4 Rule 0) (and_then (whole_text names text) counted)
