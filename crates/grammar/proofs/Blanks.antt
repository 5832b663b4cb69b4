-- A written formula has no blank. Assumes nothing.
use Rattle.std.proofs.Common.{◌≡◌, ℕ, zero, suc, ◌<◌, true, leb, List, [], ◌∷◌, ◌++◌, length, get_or, refl, ⊎_elim, arith}
use Rattle.std.proofs.lemmas.Bool.{and_parts, or_cases, leb-true}
use Rattle.ltl.specs.Formula.{Formula}
use Rattle.ltl.specs.Formula.Formula.{top, bottom, atom, negated, both, either, eventually, always}
use Rattle.names.specs.Names.{lower, digit, wordly, wordly_throughout}
use Rattle.grammar.specs.Writing.{written_on}
use Rattle.grammar.proofs.Words.{Worded, word_letters}

-- no byte is a blank
abbrev pub Unblank : List ℕ → Type 0
Unblank bytes = (i : ℕ) → i < length bytes → get_or bytes i 0 ≡ 32 → ⊥

-- one byte more that is no blank
pub unblank_cons : (b : ℕ) (bytes : List ℕ) → (b ≡ 32 → ⊥) → Unblank bytes → Unblank (b ∷ bytes)
unblank_cons b bytes n u zero l e = n e
unblank_cons b bytes n u (suc i) l e = u i (omega arith) e

-- a letter or digit is no blank
pub wordly_unblank : (b : ℕ) → wordly b ≡ true → b ≡ 32 → ⊥
wordly_unblank b h e = ⊎_elim
    (λ l. let k = leb-true 97 b (and_parts (leb 97 b) (leb b 122) l).0 in omega arith)
    (λ d. let k = leb-true 48 b (and_parts (leb 48 b) (leb b 57) d).0 in omega arith)
    (or_cases (lower b) (digit b) h)

-- letters and digits before what has no blank
pub word_unblank : (w rest : List ℕ) → wordly_throughout w ≡ true → Unblank rest → Unblank (w ++ rest)
word_unblank [] rest h u = u
word_unblank (b ∷ bs) rest h u =
    let p = and_parts (wordly b) (wordly_throughout bs) h in
    unblank_cons b (bs ++ rest) (wordly_unblank b p.0) (word_unblank bs rest p.1 u)

-- a formula written before what has no blank
pub written_unblank : (φ : Formula (List ℕ)) (rest : List ℕ) → Worded φ → Unblank rest → Unblank (written_on φ rest)
written_unblank top rest h u = word_unblank (116 ∷ 116 ∷ []) rest refl u
written_unblank bottom rest h u = word_unblank (102 ∷ 102 ∷ []) rest refl u
written_unblank (atom w) rest h u = word_unblank w rest (word_letters w h).1 u
written_unblank (negated w) rest h u = unblank_cons 33 (w ++ rest) (λ e. omega arith) (word_unblank w rest (word_letters w h).1 u)
written_unblank (both φ ψ) rest h u =
    let b = written_unblank ψ (41 ∷ rest) h.1 (unblank_cons 41 rest (λ e. omega arith) u) in
    let a = written_unblank φ (38 ∷ written_on ψ (41 ∷ rest)) h.0 (unblank_cons 38 _ (λ e. omega arith) b) in
    unblank_cons 40 _ (λ e. omega arith) a
written_unblank (either φ ψ) rest h u =
    let b = written_unblank ψ (41 ∷ rest) h.1 (unblank_cons 41 rest (λ e. omega arith) u) in
    let a = written_unblank φ (124 ∷ written_on ψ (41 ∷ rest)) h.0 (unblank_cons 124 _ (λ e. omega arith) b) in
    unblank_cons 40 _ (λ e. omega arith) a
written_unblank (eventually φ) rest h u = unblank_cons 70 _ (λ e. omega arith) (written_unblank φ rest h u)
written_unblank (always φ) rest h u = unblank_cons 71 _ (λ e. omega arith) (written_unblank φ rest h u)
