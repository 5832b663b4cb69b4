-- What reading a sheet comes to, in terms of what its fields hold.
use Rattle.std.specs.Prelude.{◌≡◌, ℕ, ◌<◌, ◌≤◌, List, [], ◌∷◌, ◌++◌, map, length, take, drop, Ok, Result, ◌≢◌, slice_index}
use Rattle.std.specs.List.{flat_map}
use Rattle.refusal.specs.Answers.{Said, and_then}
use Rattle.names.specs.Names.{declared}
use Rattle.grammar.specs.Descent.{reading}
use Rattle.fields.specs.Pieces.{encoded}
use Rattle.sheet.specs.Layout.{misplaced}
use Rattle.sheet.specs.Contents.{Read, sheet_read}

-- what a sheet's fields hold: names, the rule's text, a lead-in and a cycle for each round
pub record Content : Type 0 where
  pub names : List (List ℕ)
  pub rule : List ℕ
  pub rounds : List (List ℕ × List ℕ)

-- the bytes of such a sheet
abbrev pub spelled : Content → List ℕ
spelled s = flat_map (encoded 1) s.names ++ (encoded 2 s.rule ++ flat_map (λ r. encoded 3 r.0 ++ encoded 4 r.1) s.rounds)

-- the tags of its fields
abbrev pub tags_of : Content → List ℕ
tags_of s = map (λ _. 1) s.names ++ (2 ∷ flat_map (λ _. 3 ∷ 4 ∷ []) s.rounds)

-- names declared in turn behind others
abbrev pub declared_all : List (List ℕ) → List (List ℕ) → Result (List (List ℕ)) Said
declared_all names [] = Ok names
declared_all names (w ∷ ws) = and_then (declared names w) (λ ns. declared_all ns ws)

-- the names in turn, then the rule under them
abbrev pub content_read : Content → Result Read Said
content_read s =
    and_then (declared_all [] s.names) (λ names.
    and_then (reading names s.rule) (λ ns.
    Ok (record { names = names; nodes = ns; rounds = s.rounds })))

-- what is wrong at a place: behind fields with these tags, with these bytes to come
pub data Wrong (tags rest : List ℕ) : Type 0 where
  -- the end, though a field is still due
  due : rest ≡ [] → ((s : Content) → tags ≢ tags_of s) → Wrong tags rest
  -- a field that runs past the end
  past : (rest ≢ []) → ((t : ℕ) (b more : List ℕ) → rest ≢ encoded t b ++ more) → Wrong tags rest
  -- a field that cannot stand there
  misfit : (t : ℕ) (b more : List ℕ) → rest ≡ encoded t b ++ more → ((s : Content) (others : List ℕ) → tags ++ (t ∷ others) ≢ tags_of s) → Wrong tags rest

-- up to place p the bytes are the first fields of some sheet, and there they are wrong
pub record Stops (bytes : List ℕ) (p : ℕ) : Type 0 where
  pub inside : p ≤ length bytes
  pub fields : List (ℕ × List ℕ)
  pub front : flat_map (λ f. encoded f.0 f.1) fields ≡ take p bytes
  pub begins : (s : Content) × (others : List ℕ) × (map (λ f. f.0) fields ++ others ≡ tags_of s)
  pub wrong : Wrong (map (λ f. f.0) fields) (drop p bytes)

-- what came of bytes: over 8,192 of them they are wrong there; otherwise they are read as what they spell, or stop at the first field that is wrong
pub record BySheet (bytes : List ℕ) (came : Result Read Said) : Type 0 where
  pub long : 8192 < length bytes → came ≡ misplaced 8192
  pub good : (s : Content) → length bytes ≤ 8192 → bytes ≡ spelled s → came ≡ content_read s
  pub bad : length bytes ≤ 8192 → ((s : Content) → bytes ≢ spelled s) → (p : ℕ) × (came ≡ misplaced p) × Stops bytes p

abbrev pub IsBytes : List ℕ → Type 0
IsBytes bytes = (i : ℕ) → slice_index bytes i < 256

abbrev pub SheetReading : Type 0
SheetReading = (bytes : List ℕ) → IsBytes bytes → BySheet bytes (sheet_read bytes)
