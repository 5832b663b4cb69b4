-- Names in their places. Assumes nothing.
use Rattle.std.proofs.Common.{◌≡◌, ℕ, ◌+◌, ◌≤◌, Bool, true, false, cond, List, [], ◌∷◌, ◌++◌, map, length, arith, Some, None, not, is_some, refl, sym, ap, ◌∙◌}
use Rattle.std.specs.List.{position_from}
use Rattle.std.specs.Str.{bytes_eq}
use Rattle.ltl.specs.Lists.{position}
use Rattle.ltl.proofs.Search.{found_behind}
use lib.ListN.{length-map}
use Rattle.std.proofs.lemmas.List.{map_push}
use Rattle.few.specs.declared.held.Few.{Few}
use Rattle.few.specs.Items.{items}
use Rattle.names.specs.declared.name.Name.{Name}
use Rattle.names.specs.Spelled.{spelled, spelled_in}
use Rattle.few.proofs.Granted.{items_few}
use Rattle.names.specs.declared.list.Names.{Names}
use Rattle.names.specs.Listed.{spelled_names}
use Rattle.names.specs.Names.{has}

-- where a list is made item by item, the place in it is the place in what it is made of
pub position_mapped : {X Y : Type 0} (f : X → Y) (p : Y → Bool) (i : ℕ) (xs : List X) → position_from (λ x. p (f x)) i xs ≡ position_from p i (map f xs)
position_mapped f p i [] = refl
position_mapped f p i (x ∷ xs) = ap (cond (p (f x)) (Some i)) (position_mapped f p (i + 1) xs)

-- a name is found exactly where the names have it
pub found_has : (names : List (List ℕ)) (w : List ℕ) → is_some (position_from (bytes_eq w) 0 names) ≡ has names w
found_has names w =
    ap is_some (sym (found_behind (bytes_eq w) (λ y. not (bytes_eq w y)) (λ y. refl) names))
    ∙ told (has names w) (position bytes_eq w names)
  where
    told : (b : Bool) (i : ℕ) → is_some (cond b (Some i) None) ≡ b
    told true i = refl
    told false i = refl

-- one name more
pub names_push : {N : ℕ} (old new : Few Name N) (name : Name) (w : List ℕ) → items new ≡ items old ++ (name ∷ []) → spelled name ≡ w → spelled_in new ≡ spelled_in old ++ (w ∷ [])
names_push old new name w e s = ap (map spelled) e ∙ map_push spelled (items old) name ∙ ap (λ n. spelled_in old ++ (n ∷ [])) s

-- never more than six
pub names_few : (x : Names) → length (spelled_names x) ≤ 6
names_few x = omega (arith, items_few x.list, length-map (items x.list) spelled)
