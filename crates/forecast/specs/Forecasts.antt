-- Forecasts: sets of temporal subformulae, each written as the number of its bits. The k-th temporal node has bit k.
use Rattle.std.specs.Prelude.{ℕ, ◌+◌, ◌^◌, Bool, true, false, cond, not, ◌&&◌, ◌||◌, List, [], ◌∷◌, ◌++◌, take, nat_eq, slice_index_or}
use Rattle.ltl.specs.declared.Node.{Node}
use Rattle.ltl.specs.declared.Node.TheVariants.{True, False, Atom, NotAtom, And, Or, Eventually, Always}
use Rattle.ltl.specs.Words.{bit}
use Rattle.ltl.specs.Arena.{temporal, temporals}
use Rattle.forecast.specs.Bounded.{some}

-- the bit of node k, if it is temporal: how many temporal nodes come before it
abbrev pub rank : List Node → ℕ → ℕ
rank ns k = temporals (take k ns)

-- what a temporal node is worth, from the value v of its part and its membership j in a forecast: by the forecast alone,
abbrev pub kept : Node → Bool → Bool → Bool
kept node v j = j

-- or decided anew: F q where q holds or it was forecast, G q where q holds and it was forecast
abbrev pub renewed : Node → Bool → Bool → Bool
renewed True v j = j
renewed False v j = j
renewed (Atom a) v j = j
renewed (NotAtom a) v j = j
renewed (And i k) v j = j
renewed (Or i k) v j = j
renewed (Eventually i) v j = v || j
renewed (Always i) v j = v && j

-- the value of a node with bit t at a letter and a forecast, from the values of the nodes before it
abbrev pub value_of : (Node → Bool → Bool → Bool) → ℕ → ℕ → List Bool → ℕ → Node → Bool
value_of how a J vs t True = true
value_of how a J vs t False = false
value_of how a J vs t (Atom k) = bit k a
value_of how a J vs t (NotAtom k) = not (bit k a)
value_of how a J vs t (And i k) = slice_index_or vs i false && slice_index_or vs k false
value_of how a J vs t (Or i k) = slice_index_or vs i false || slice_index_or vs k false
value_of how a J vs t (Eventually i) = how (Eventually i) (slice_index_or vs i false) (bit t J)
value_of how a J vs t (Always i) = how (Always i) (slice_index_or vs i false) (bit t J)

abbrev pub values_on : (Node → Bool → Bool → Bool) → ℕ → ℕ → List Bool → ℕ → List Node → List Bool
values_on how a J vs t [] = vs
values_on how a J vs t (x ∷ xs) = values_on how a J (vs ++ (value_of how a J vs t x ∷ [])) (t + cond (temporal x) 1 0) xs

-- the values of all nodes, in numbering order
abbrev pub values : (Node → Bool → Bool → Bool) → List Node → ℕ → ℕ → List Bool
values how ns a J = values_on how a J [] 0 ns

-- node q holds at (a, J): names by the letter, temporal nodes by membership in J, the rest as usual
abbrev pub holds_at : List Node → ℕ → ℕ → ℕ → Bool
holds_at ns a J q = slice_index_or (values kept ns a J) q false

-- the forecast of those temporal nodes whose values are true
abbrev pub gather : ℕ → List Node → List Bool → ℕ
gather t [] vs = 0
gather t (x ∷ xs) [] = 0
gather t (x ∷ xs) (v ∷ vs) = cond (temporal x) (cond v (2 ^ t) 0 + gather (t + 1) xs vs) (gather t xs vs)

-- the recast of J by a letter: the temporal nodes decided anew in numbering order
abbrev pub recast : List Node → ℕ → ℕ → ℕ
recast ns a J = gather 0 ns (values renewed ns a J)

-- a forecast is possible if it is the recast of some forecast by some letter over n names
abbrev pub possible : ℕ → List Node → ℕ → Bool
possible n ns J = some (2 ^ temporals ns) (λ I. some (2 ^ n) (λ a. nat_eq (recast ns a I) J))
