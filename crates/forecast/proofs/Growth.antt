-- Values and recasts grow with the forecast. Assumes nothing.
use Rattle.std.proofs.Common.{◌≡◌, ℕ, ◌<◌, Bool, true, false, ◌&&◌, ◌||◌, List, length, get_or, sym, refl, ◌∙◌}
use mathlib.Core.Logic.◌⊎◌.{inl, inr}
use Rattle.std.proofs.lemmas.Bool.{and_parts, and_from, or_cases, or_left, or_right}
use Rattle.ltl.specs.declared.Node.{Node}
use Rattle.ltl.specs.declared.Node.TheVariants.{True, False, Atom, NotAtom, And, Or, Eventually, Always}
use Rattle.ltl.specs.Words.{bit}
use Rattle.ltl.specs.Arena.{temporal}
use Rattle.ltl.proofs.Meanings.{Fits, Tidy}
use Rattle.forecast.specs.Forecasts.{rank, kept, renewed, value_of, values, recast}
use Rattle.forecast.proofs.Bits.{gather_bit}
use Rattle.forecast.proofs.Values.{each_below, length_values, value_at}

-- each temporal node of J is one of K
abbrev pub Under : List Node → ℕ → ℕ → Type 0
Under ns J K = (k : ℕ) → k < length ns → temporal (get_or ns k True) ≡ true → bit (rank ns k) J ≡ true → bit (rank ns k) K ≡ true

-- a test that passes where another does
abbrev Implies : Bool → Bool → Type 0
Implies x y = x ≡ true → y ≡ true

-- joined tests grow with their parts
and_grows : (x y u v : Bool) → Implies x u → Implies y v → Implies (x && y) (u && v)
and_grows x y u v f g e = let p = and_parts x y e in and_from u v (f p.0) (g p.1)

-- and so do alternatives
or_grows : (x y u v : Bool) → Implies x u → Implies y v → Implies (x || y) (u || v)
or_grows x y u v f g e = elim (or_cases x y e) [ inl h ↦ or_left u v (f h) | inr h ↦ or_right u v (g h) ]

-- a way of deciding temporal nodes that grows with part and membership
abbrev Grows : (Node → Bool → Bool → Bool) → Type 0
Grows how = (x : Node) (u v i j : Bool) → Implies u v → Implies i j → Implies (how x u i) (how x v j)

-- kept grows, and so does renewed
kept_grows : Grows kept
kept_grows x u v i j f g = g

renewed_grows : Grows renewed
renewed_grows True u v i j f g = g
renewed_grows False u v i j f g = g
renewed_grows (Atom a) u v i j f g = g
renewed_grows (NotAtom a) u v i j f g = g
renewed_grows (And a b) u v i j f g = g
renewed_grows (Or a b) u v i j f g = g
renewed_grows (Eventually a) u v i j f g = or_grows u i v j f g
renewed_grows (Always a) u v i j f g = and_grows u i v j f g

module _ (ns : List Node) (tidy : Tidy ns) (a J K : ℕ) (under : Under ns J K) where
  -- values grow, whichever way temporal nodes are decided
  values_grow : (how : Node → Bool → Bool → Bool) → Grows how → (k : ℕ) → k < length ns
      → Implies (get_or (values how ns a J) k false) (get_or (values how ns a K) k false)
  values_grow how grows = each_below (length ns) (λ k. Implies (V k) (W k)) step
    where
      V : ℕ → Bool
      V k = get_or (values how ns a J) k false

      W : ℕ → Bool
      W k = get_or (values how ns a K) k false

      node : (k : ℕ) (x : Node) → Fits k x → (temporal x ≡ true → Implies (bit (rank ns k) J) (bit (rank ns k) K)) → ((j : ℕ) → j < k → Implies (V j) (W j))
          → Implies (value_of how a J (values how ns a J) (rank ns k) x) (value_of how a K (values how ns a K) (rank ns k) x)
      node k True f h before = λ e. e
      node k False f h before = λ e. e
      node k (Atom b) f h before = λ e. e
      node k (NotAtom b) f h before = λ e. e
      node k (And i j) f h before = and_grows _ _ _ _ (before i f.0) (before j f.1)
      node k (Or i j) f h before = or_grows _ _ _ _ (before i f.0) (before j f.1)
      node k (Eventually i) f h before = grows (Eventually i) _ _ _ _ (before i f) (h refl)
      node k (Always i) f h before = grows (Always i) _ _ _ _ (before i f) (h refl)

      step : (k : ℕ) → k < length ns → ((j : ℕ) → j < k → Implies (V j) (W j)) → Implies (V k) (W k)
      step k l before e = value_at how ns tidy a K k l ∙ node k (get_or ns k True) (tidy k l) (under k l) before (sym (value_at how ns tidy a J k l) ∙ e)

  -- what holds at a forecast holds at a larger one
  pub holds_grows : (k : ℕ) → k < length ns → get_or (values kept ns a J) k false ≡ true → get_or (values kept ns a K) k false ≡ true
  holds_grows = values_grow kept kept_grows

  -- a larger forecast has a larger recast
  pub recast_grows : Under ns (recast ns a J) (recast ns a K)
  recast_grows k l t e =
      gather_bit ns (values renewed ns a K) k (length_values renewed ns tidy a K) l t
      ∙ values_grow renewed renewed_grows k l (sym (gather_bit ns (values renewed ns a J) k (length_values renewed ns tidy a J) l t) ∙ e)
