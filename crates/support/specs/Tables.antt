-- What a table's names and bytes are.
use Rattle.std.specs.Prelude.{ℕ, ◌+◌, ◌-◌, ◌*◌, cond, ◌&&◌, nat_le, List, [], ◌∷◌, Ok, Result, ◌==◌}
use Rattle.std.specs.List.{slice_split}
use Rattle.refusal.specs.Answers.{Said, and_then}
use Rattle.names.specs.Names.{declared}

-- names declared one after another behind others, up to the first that is refused
abbrev pub declared_all : List (List ℕ) → List (List ℕ) → Result (List (List ℕ)) Said
declared_all names [] = Ok names
declared_all names (w ∷ ws) = and_then (declared names w) (λ more. declared_all more ws)

-- a list of names with commas between them; no byte at all is no name
abbrev pub listed : List ℕ → List (List ℕ)
listed [] = []
listed (b ∷ bs) = slice_split (λ c. c == 44) (b ∷ bs)

-- what a hexadecimal digit counts, in small letters; nothing else counts
abbrev pub digit_in : ℕ → ℕ
digit_in b = cond (nat_le 48 b && nat_le b 57) (b - 48) (cond (nat_le 97 b && nat_le b 102) (b - 97 + 10) 0)

-- the bytes that digits spell, two for each; one digit alone spells none
abbrev pub bytes_in : List ℕ → List ℕ
bytes_in [] = []
bytes_in (h ∷ []) = []
bytes_in (h ∷ l ∷ rest) = (digit_in h * 16 + digit_in l) ∷ bytes_in rest
