-- Well-formed names, and formulae over them. Assumes nothing.
use Rattle.std.proofs.Common.{◌≡◌, ℕ, zero, suc, ◌<◌, true, not, leb, List, [], ◌∷◌, length, get_or, codes, ◌∙◌, arith}
use Rattle.std.specs.Str.{bytes_eq}
use Rattle.std.proofs.lemmas.Bool.{and_parts, or_parts, not-true, false≢true, cond-false}
use Rattle.ltl.specs.Formula.{Formula, Below}
use Rattle.ltl.specs.Formula.Formula.{top, bottom, atom, negated, both, either, eventually, always}
use Rattle.names.specs.Names.{lower, wordly_throughout, is_word_text, constant, well_formed, has, proper}
use Rattle.grammar.specs.Marks.{word_of}
use Rattle.grammar.specs.Marks.Mark.{name}
use Rattle.grammar.specs.Writing.{named}

-- each name of a formula is well-formed
abbrev pub Worded : Formula (List ℕ) → Type 0
Worded top = Unit {0}
Worded bottom = Unit {0}
Worded (atom w) = well_formed w ≡ true
Worded (negated w) = well_formed w ≡ true
Worded (both φ ψ) = Worded φ × Worded ψ
Worded (either φ ψ) = Worded φ × Worded ψ
Worded (eventually φ) = Worded φ
Worded (always φ) = Worded φ

-- a well-formed name is letters and digits, a letter first
pub word_letters : (w : List ℕ) → well_formed w ≡ true → (lower (get_or w 0 0) ≡ true) × (wordly_throughout w ≡ true)
word_letters w h = and_parts (lower (get_or w 0 0)) (wordly_throughout w) (and_parts (is_word_text w) (not (constant w)) (and_parts (leb (length w) 8) _ h).1).0

-- a well-formed name is not empty
pub word_some : well_formed [] ≡ true → ⊥
word_some h = false≢true h

-- a well-formed name is the mark of itself
pub word_plain : (w : List ℕ) → well_formed w ≡ true → word_of w ≡ name w
word_plain w h =
    let n = not-true (constant w) (and_parts (is_word_text w) (not (constant w)) (and_parts (leb (length w) 8) _ h).1).1 in
    let p = or_parts (bytes_eq w (codes "tt")) (bytes_eq w (codes "ff")) n in
    cond-false (bytes_eq w (codes "tt")) _ _ p.0 ∙ cond-false (bytes_eq w (codes "ff")) _ _ p.1

-- each of proper names is well-formed
pub word_at : (names : List (List ℕ)) (k : ℕ) → proper names ≡ true → k < length names → well_formed (get_or names k []) ≡ true
word_at [] k h l = let z : ⊥ = omega arith in absurd z
word_at (w ∷ names) zero h l = (and_parts (well_formed w) _ h).0
word_at (w ∷ names) (suc k) h l = word_at names k (and_parts (not (has names w)) (proper names) (and_parts (well_formed w) _ h).1).1 (omega arith)

-- a formula over the numbers of proper names has well-formed names
pub named_worded : (names : List (List ℕ)) (φ : Formula ℕ) → proper names ≡ true → Below (length names) φ → Worded (named names φ)
named_worded names top h b = tt
named_worded names bottom h b = tt
named_worded names (atom a) h b = word_at names a h b
named_worded names (negated a) h b = word_at names a h b
named_worded names (both φ ψ) h b = (named_worded names φ h b.0, named_worded names ψ h b.1)
named_worded names (either φ ψ) h b = (named_worded names φ h b.0, named_worded names ψ h b.1)
named_worded names (eventually φ) h b = named_worded names φ h b
named_worded names (always φ) h b = named_worded names φ h b
