-- The marks of a rule's text, each with its place.
use Rattle.std.specs.Prelude.{ℕ, zero, suc, ◌+◌, Bool, cond, List, [], ◌∷◌, take, codes, ◌==◌, nat_lt}
use Rattle.std.specs.List.{prefix_len}
use Rattle.std.specs.Str.{bytes_eq}
use Rattle.names.specs.Names.{lower, wordly}

pub data Mark : Type 0 where
  verum : Mark
  falsum : Mark
  name : List ℕ → Mark
  negation : Mark
  finally : Mark
  globally : Mark
  opening : Mark
  conjunction : Mark
  disjunction : Mark
  closing : Mark
  -- a byte that is part of no rule
  foreign : Mark
  -- no mark: the text has ended
  finish : Mark

-- the kinds of marks in a row, those first that a rule can begin with
abbrev pub kind : Mark → ℕ
kind verum = 0
kind falsum = 1
kind (name w) = 2
kind negation = 3
kind finally = 4
kind globally = 5
kind opening = 6
kind conjunction = 7
kind disjunction = 8
kind closing = 9
kind foreign = 10
kind finish = 11

abbrev pub is_kind : Mark → Mark → Bool
is_kind k m = kind k == kind m

abbrev pub begins : Mark → Bool
begins m = nat_lt (kind m) 7

pub record Placed : Type 0 where
  pub place : ℕ
  pub mark : Mark

-- the mark that one byte is
abbrev pub mark_of : ℕ → Mark
mark_of b =
    cond (b == 33) negation
    (cond (b == 70) finally
    (cond (b == 71) globally
    (cond (b == 40) opening
    (cond (b == 38) conjunction
    (cond (b == 124) disjunction
    (cond (b == 41) closing foreign))))))

-- the mark that a run of letters and digits is
abbrev pub word_of : List ℕ → Mark
word_of w = cond (bytes_eq w (codes "tt")) verum (cond (bytes_eq w (codes "ff")) falsum (name w))

-- the marks of bytes whose first stands at place p, of which k still belong to the mark before:
-- a blank is none, a letter begins the longest run of letters and digits, any other byte is a mark of its own
abbrev pub marks_from : ℕ → ℕ → List ℕ → List Placed
marks_from p k [] = []
marks_from p (suc k) (b ∷ bs) = marks_from (p + 1) k bs
marks_from p zero (b ∷ bs) =
    let more : ℕ = prefix_len wordly bs in
    let run : List Placed = record { place = p; mark = word_of (b ∷ take more bs) } ∷ marks_from (p + 1) more bs in
    let rest : List Placed = marks_from (p + 1) 0 bs in
    cond (b == 32) rest (cond (lower b) run (record { place = p; mark = mark_of b } ∷ rest))

abbrev pub marks : List ℕ → List Placed
marks text = marks_from 0 0 text
