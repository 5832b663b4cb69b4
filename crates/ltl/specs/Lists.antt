-- Lists without repetition. Assumes nothing.
use Rattle.std.specs.Prelude.{ℕ, Bool, cond, not, List, [], ◌∷◌, ◌++◌, length, nat_lt}
use Rattle.std.specs.List.{prefix_len}

-- the place of the first element that is x, or the length where there is none
abbrev pub position : {X : Type 0} → (X → X → Bool) → X → List X → ℕ
position same x ys = prefix_len (λ y. not (same x y)) ys

-- a list with x behind it, unless x is there already
abbrev pub added : {X : Type 0} → (X → X → Bool) → List X → X → List X
added same ys x = cond (nat_lt (position same x ys) (length ys)) ys (ys ++ (x ∷ []))

abbrev pub added_all : {X : Type 0} → (X → X → Bool) → List X → List X → List X
added_all same ys [] = ys
added_all same ys (x ∷ xs) = added_all same (added same ys x) xs

-- each element once, where it comes first
abbrev pub firsts : {X : Type 0} → (X → X → Bool) → List X → List X
firsts same xs = added_all same [] xs
