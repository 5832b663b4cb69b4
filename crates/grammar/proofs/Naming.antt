-- Names and their numbers.
use Rattle.std.proofs.Common.{◌≡◌, ℕ, zero, suc, ◌+◌, ◌<◌, ◌≤◌, Bool, true, false, cond, not, ◌&&◌, List, [], ◌∷◌, length, get_or, sym, refl, ap, ◌∙◌, subst, arith}
use Rattle.std.specs.Str.{bytes_eq}
use Rattle.std.proofs.lemmas.Slice.Eq.{bytes_eq-Decides}
use Rattle.std.proofs.lemmas.Bool.{lt-ltb, and_parts, not-true, both_ways}
use Rattle.ltl.specs.Formula.{Formula, Below, renamed}
use Rattle.ltl.specs.Formula.Formula.{top, bottom, atom, negated, both, either, eventually, always}
use Rattle.ltl.specs.Lists.{position}
use Rattle.names.specs.Names.{has, proper, well_formed}
use Rattle.grammar.specs.Writing.{named}

-- a choice by a negated test, in both cases
not_cond : (b : Bool) (x y : ℕ) (P : ℕ → Type 0) → (b ≡ false → P x) → (b ≡ true → P y) → P (cond (not b) x y)
not_cond true x y P f g = g refl
not_cond false x y P f g = f refl

-- a name of the list is first found no later than where it stands
position_nth : (names : List (List ℕ)) (k : ℕ) → k < length names → position bytes_eq (get_or names k []) names ≤ k
position_nth [] k h = let z : ⊥ = omega arith in absurd z
position_nth (w ∷ ws) zero h = not_cond (bytes_eq w w) _ 0 (λ n. n ≤ 0) (λ e. absurd (both_ways (bytes_eq w w) e ((bytes_eq-Decides w w).1 refl)))
    (λ e. omega arith)
position_nth (w ∷ ws) (suc k) h =
    let ih = position_nth ws k (omega arith) in
    not_cond (bytes_eq (get_or ws k []) w) _ 0 (λ n. n ≤ suc k) (λ e. omega arith) (λ e. omega arith)

-- a name of the list is declared
pub has_nth : (names : List (List ℕ)) (k : ℕ) → k < length names → has names (get_or names k []) ≡ true
has_nth names k h = lt-ltb _ _ (omega (arith, position_nth names k h))

-- the name stands where it is found
pub found : (names : List (List ℕ)) (w : List ℕ) → position bytes_eq w names < length names → get_or names (position bytes_eq w names) [] ≡ w
found [] w h = let z : ⊥ = omega arith in absurd z
found (v ∷ vs) w h =
    let q : suc (position bytes_eq w vs) ≡ 1 + position bytes_eq w vs = omega arith in
    not_cond (bytes_eq w v) (1 + position bytes_eq w vs) 0 (λ n. n < suc (length vs) → get_or (v ∷ vs) n [] ≡ w)
    (λ e l. subst (λ n. get_or (v ∷ vs) n [] ≡ w) q (found vs w (omega arith))) (λ e l. sym ((bytes_eq-Decides w v).0 e)) h

-- the first of proper names stands nowhere else
first_once : (w : List ℕ) (ws : List (List ℕ)) → proper (w ∷ ws) ≡ true → (k : ℕ) → k < length ws → get_or ws k [] ≡ w → ⊥
first_once w ws p k h e =
    let q = (and_parts (not (has ws w)) (proper ws) (and_parts (well_formed w) (not (has ws w) && proper ws) p).1).0 in
    both_ways (has ws w) (not-true (has ws w) q) (subst (λ x. has ws x ≡ true) e (has_nth ws k h))

-- proper names are each once
pub once : (names : List (List ℕ)) → proper names ≡ true → (j k : ℕ) → j < length names → k < length names → get_or names j [] ≡ get_or names k [] → j ≡ k
once [] p j k h l e = let z : ⊥ = omega arith in absurd z
once (w ∷ ws) p zero zero h l e = refl
once (w ∷ ws) p zero (suc k) h l e = absurd (first_once w ws p k (omega arith) (sym e))
once (w ∷ ws) p (suc j) zero h l e = absurd (first_once w ws p j (omega arith) e)
once (w ∷ ws) p (suc j) (suc k) h l e =
    ap suc (once ws (and_parts (not (has ws w)) (proper ws) (and_parts (well_formed w) (not (has ws w) && proper ws) p).1).1 j k (omega arith) (omega arith) e)

-- a proper name is found where it stands
position_exact : (names : List (List ℕ)) → proper names ≡ true → (k : ℕ) → k < length names → position bytes_eq (get_or names k []) names ≡ k
position_exact names p k h =
    let l : position bytes_eq (get_or names k []) names < length names = omega (arith, position_nth names k h) in
    once names p _ k l h (found names (get_or names k []) l)

-- the numbers come back from the names
numbered : (names : List (List ℕ)) → proper names ≡ true → (φ : Formula ℕ) → Below (length names) φ → renamed (λ w. position bytes_eq w names) (named names φ) ≡ φ
numbered names p top b = refl
numbered names p bottom b = refl
numbered names p (atom a) b = ap atom (position_exact names p a b)
numbered names p (negated a) b = ap negated (position_exact names p a b)
numbered names p (both φ ψ) b = cc (numbered names p φ b.0, numbered names p ψ b.1)
numbered names p (either φ ψ) b = cc (numbered names p φ b.0, numbered names p ψ b.1)
numbered names p (eventually φ) b = ap eventually (numbered names p φ b)
numbered names p (always φ) b = ap always (numbered names p φ b)

-- over proper names, one spelling is of one formula
pub named_once : (names : List (List ℕ)) → proper names ≡ true → (φ ψ : Formula ℕ) → Below (length names) φ → Below (length names) ψ
    → named names φ ≡ named names ψ → φ ≡ ψ
named_once names p φ ψ b c e = sym (numbered names p φ b) ∙ (ap (renamed (λ w. position bytes_eq w names)) e ∙ numbered names p ψ c)
