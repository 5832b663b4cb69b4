-- A search from the front of a list. Assumes nothing.
use Rattle.std.proofs.Common.{◌≡◌, ℕ, ◌+◌, ◌<◌, ◌≤◌, Bool, true, false, not, cond, nat_lt, List, length, Some, None, refl, ap, ◌∙◌, arith}
use Rattle.std.specs.List.{prefix_len, position_from, position_or_len}
use Rattle.std.proofs.lemmas.Bool.Decides.{nat_tests}
use Rattle.std.proofs.lemmas.List.Recursion.{is_position_or_len}
use Rattle.std.proofs.lemmas.Iterator.Adapters.{position_from-zero}

-- the first that passes p stands where the longest front that passes q ends, q being the opposite of p
pub found_behind : {X : Type 0} (p q : X → Bool) → ((x : X) → q x ≡ not (p x)) → (xs : List X)
    → cond (nat_lt (prefix_len q xs) (length xs)) (Some (prefix_len q xs)) None ≡ position_from p 0 xs
found_behind p q apart xs =
    let same : prefix_len q xs ≡ position_or_len p xs = is_position_or_len (prefix_len q) p refl (λ x ys. turned (q x) (p x) (1 + prefix_len q ys) (apart x)) xs in
    ap (λ i. cond (nat_lt i (length xs)) (Some i) None) same ∙ position_from-zero p xs
  where
    turned : (a b : Bool) (n : ℕ) → a ≡ not b → cond a n 0 ≡ cond b 0 n
    turned a true n e = ap (λ c. cond c n 0) e
    turned a false n e = ap (λ c. cond c n 0) e

-- so what is found is there, and where nothing is found all pass q
module _ {X : Type 0} (p q : X → Bool) (apart : (x : X) → q x ≡ not (p x)) (xs : List X) where
  pub found_some : (i : ℕ) → position_from p 0 xs ≡ Some i → (i ≡ prefix_len q xs) × (prefix_len q xs < length xs)
  found_some i e = let f = found_behind p q apart xs in grind (arith, nat_tests)

  pub found_none : position_from p 0 xs ≡ None → length xs ≤ prefix_len q xs
  found_none e = let f = found_behind p q apart xs in grind (arith, nat_tests)
