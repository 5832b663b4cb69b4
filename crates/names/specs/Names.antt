-- Names as the lists of their bytes.
use Rattle.std.specs.Prelude.{ℕ, Bool, true, cond, not, ◌&&◌, ◌||◌, List, [], ◌∷◌, ◌++◌, length, Ok, codes, Result, nat_le, nat_lt, slice_index}
use Rattle.std.specs.List.{list_all}
use Rattle.std.specs.Str.{bytes_eq}
use Rattle.refusal.specs.declared.Layer.TheVariants.{Names}
use Rattle.refusal.specs.Answers.{Said, refused}
use Rattle.ltl.specs.Lists.{position}

abbrev pub lower : ℕ → Bool
lower b = nat_le 97 b && nat_le b 122

abbrev pub digit : ℕ → Bool
digit b = nat_le 48 b && nat_le b 57

-- what a name goes on with
abbrev pub wordly : ℕ → Bool
wordly b = lower b || digit b

abbrev pub wordly_throughout : List ℕ → Bool
wordly_throughout w = list_all wordly w

-- letters and digits, a letter first
abbrev pub is_word_text : List ℕ → Bool
is_word_text w = lower (slice_index w 0) && wordly_throughout w

-- `tt` and `ff` are the constants
abbrev pub constant : List ℕ → Bool
constant w = bytes_eq w (codes "tt") || bytes_eq w (codes "ff")

-- at most 8 letters and digits, a letter first, and no constant
abbrev pub well_formed : List ℕ → Bool
well_formed w = nat_le (length w) 8 && (is_word_text w && not (constant w))

abbrev pub has : List (List ℕ) → List ℕ → Bool
has names w = nat_lt (position bytes_eq w names) (length names)

-- well-formed names, each once
abbrev pub proper : List (List ℕ) → Bool
proper [] = true
proper (w ∷ names) = well_formed w && (not (has names w) && proper names)

-- one name more: the seventh is refused first, then a malformed one, then one declared before
abbrev pub declared : List (List ℕ) → List ℕ → Result (List (List ℕ)) Said
declared names w =
    cond (nat_le 6 (length names)) (refused 3 Names 6)
    (cond (not (well_formed w)) (refused 1 Names (length names))
    (cond (has names w) (refused 2 Names (length names))
    (Ok (names ++ (w ∷ [])))))
