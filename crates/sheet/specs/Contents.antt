-- What a sheet says.
use Rattle.std.specs.Prelude.{ℕ, cond, List, [], ◌∷◌, length, drop, Ok, Result, ◌==◌}
use Rattle.std.specs.Borrow.{Bor}
use Rattle.refusal.specs.Answers.{Said, and_then}
use Rattle.ltl.specs.declared.Node.{Node}
use Rattle.names.specs.Names.{declared}
use Rattle.names.specs.declared.list.Names.{Names}
use Rattle.names.specs.Listed.{spelled_names}
use Rattle.grammar.specs.Descent.{reading}
use Rattle.rule.specs.Rules.{nodes_in, names_in}
use Rattle.fields.specs.Pieces.{Part, parts, parts_from}
use Rattle.fields.specs.Pieces.Part.{whole, cut}
use Rattle.fields.specs.Walked.{remaining}
use Rattle.fields.specs.declared.piece.Fields.{Fields}
use Rattle.sheet.specs.declared.view.Sheet.{Sheet}
use Rattle.sheet.specs.Layout.{misplaced, ordered}

-- the names that the front declares, the rule's text, and the fields behind it
pub record Fronted : Type 0 where
  pub names : List (List ℕ)
  pub text : List ℕ
  pub rest : List Part

-- the names in turn, each declared or refused, up to the rule
abbrev pub fronted : ℕ → List (List ℕ) → List Part → Result Fronted Said
fronted stop names [] = misplaced stop
fronted stop names (cut p ∷ ps) = misplaced p
fronted stop names (whole p t b ∷ ps) =
    cond (t == 1) (and_then (declared names b) (λ ns. fronted stop ns ps)) (Ok (record { names = names; text = b; rest = ps }))

-- the lead-ins and cycles, two fields for each round
abbrev pub rounds_in : List Part → List (List ℕ × List ℕ)
rounds_in [] = []
rounds_in (cut p ∷ ps) = []
rounds_in (whole p t lead ∷ []) = []
rounds_in (whole p t lead ∷ cut q ∷ ps) = []
rounds_in (whole p t lead ∷ whole q u cycle ∷ ps) = (lead, cycle) ∷ rounds_in ps

-- a sheet that is read: its names, its numbered formula, its rounds
pub record Read : Type 0 where
  pub names : List (List ℕ)
  pub nodes : List Node
  pub rounds : List (List ℕ × List ℕ)

-- first the layout, then the names in turn, then the rule
abbrev pub sheet_read : List ℕ → Result Read Said
sheet_read bytes =
    and_then (ordered bytes) (λ _.
    and_then (fronted (length bytes) [] (parts bytes)) (λ f.
    and_then (reading f.names f.text) (λ ns.
    Ok (record { names = f.names; nodes = ns; rounds = rounds_in f.rest }))))

abbrev pub front_seen : Fields → Names → Bor (List ℕ) → Fronted
front_seen f x text = record { names = spelled_names x; text = text.now; rest = remaining f }

-- a sheet over these bytes, by what it says
abbrev pub sheet_seen : List ℕ → Sheet → Read
sheet_seen bytes s = record { names = names_in s.rule; nodes = nodes_in s.rule; rounds = rounds_in (parts_from s.rounds 0 (drop s.rounds bytes)) }
