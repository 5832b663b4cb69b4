-- What one turn of a loop over an iterator takes from the list that it gives. Assumes nothing.
use Rattle.std.proofs.Common.{◌≡◌, ℕ, ◌<◌, eqb, List, [], ◌∷◌, length, Option, Some, None, sym, refl, ap, arith}
use Rattle.std.specs.Iterator.{AlwaysYields}
use Rattle.std.specs.List.{slice_split}
use Rattle.support.specs.Tables.{listed}

module _ {S A B : Type 0} (steps : S → Option A → S → Type 0) (v : A → B) (s t : S) where
  -- the first item is the first of the list, and the others are still to come
  pub turn : (x : A) → steps s (Some x) t → (rest : List B) → AlwaysYields steps v s rest
      → (more : List B) × (rest ≡ v x ∷ more) × AlwaysYields steps v t more
  turn x h [] a = absurd (a x t h)
  turn x h (y ∷ ys) a = let q = a.1 x t h in (ys, ap (λ z. z ∷ ys) (sym q.0), q.1)

  -- where no item comes, there is none
  pub ended : steps s None t → (rest : List B) → AlwaysYields steps v s rest → rest ≡ []
  ended h [] a = refl
  ended h (y ∷ ys) a = absurd (a.0 t h)

-- some bytes are cut at the commas
pub listed_some : (bs : List ℕ) → 0 < length bs → listed bs ≡ slice_split (λ c. eqb c 44) bs
listed_some [] h = absurd (omega arith)
listed_some (b ∷ bs) h = refl
