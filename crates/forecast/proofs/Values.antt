-- The values of nodes: each is one step of its parts' values, and these equations have one solution. Assumes nothing.
use Rattle.std.proofs.Common.{◌≡◌, ℕ, zero, suc, ◌+◌, ◌<◌, ◌≤◌, Bool, true, false, cond, ◌&&◌, ◌||◌, List, [], ◌∷◌, ◌++◌, length, get_or, take, sym, refl, ap, ◌∙◌, subst, ap₂, arith}
use mathlib.Core.Logic.◌⊎◌.{inl, inr}
use Rattle.std.proofs.lemmas.Bool.{cases_lt, false≢true}
use Rattle.std.proofs.lemmas.List.{append-nil, append_assoc, length_push, get_or_at, get_or_append_left, ext_get_or}
use Rattle.ltl.specs.declared.Node.{Node}
use Rattle.ltl.specs.declared.Node.TheVariants.{True, False, Atom, NotAtom, And, Or, Eventually, Always}
use Rattle.ltl.specs.Words.{bit}
use Rattle.ltl.specs.Arena.{temporal}
use Rattle.ltl.proofs.Meanings.{Fits, Tidy}
use Rattle.forecast.specs.Forecasts.{rank, kept, value_of, values_on, values, holds_at}
use Rattle.forecast.proofs.Bits.{temporals_cons}

-- what holds of a number where it holds of all smaller ones, holds of each below n
pub each_below : (n : ℕ) (P : ℕ → Type 0) → ((k : ℕ) → k < n → ((j : ℕ) → j < k → P j) → P k) → (k : ℕ) → k < n → P k
each_below n P step k l = go (suc k) (omega arith) k (omega arith)
  where
    go : (m : ℕ) → m ≤ n → (j : ℕ) → j < m → P j
    go zero h j b = let z : ⊥ = omega arith in absurd z
    go (suc m) h j b = elim (cases_lt j m) [
      | inl c ↦ go m (omega arith) j c
      | inr c ↦ let e : m ≡ j = omega arith in subst P e (step m h (go m (omega arith)))
    ]

module _ (how : Node → Bool → Bool → Bool) (a J : ℕ) where
  -- a value depends only on the values of the node's parts
  pub value_same : (us vs : List Bool) (k t : ℕ) (x : Node) → Fits k x → ((j : ℕ) → j < k → get_or us j false ≡ get_or vs j false)
      → value_of how a J us t x ≡ value_of how a J vs t x
  value_same us vs k t True f h = refl
  value_same us vs k t False f h = refl
  value_same us vs k t (Atom b) f h = refl
  value_same us vs k t (NotAtom b) f h = refl
  value_same us vs k t (And i j) f h = ap₂ (λ x y. x && y) (h i f.0) (h j f.1)
  value_same us vs k t (Or i j) f h = ap₂ (λ x y. x || y) (h i f.0) (h j f.1)
  value_same us vs k t (Eventually i) f h = ap (λ v. how (Eventually i) v (bit t J)) (h i f)
  value_same us vs k t (Always i) f h = ap (λ v. how (Always i) v (bit t J)) (h i f)

  -- the values so far stay in front
  values_begin : (vs : List Bool) (t : ℕ) (ns : List Node) → (rest : List Bool) × (values_on how a J vs t ns ≡ vs ++ rest)
  values_begin vs t [] = ([], sym (append-nil vs))
  values_begin vs t (x ∷ xs) =
      let v = value_of how a J vs t x in
      let r = values_begin (vs ++ (v ∷ [])) (t + cond (temporal x) 1 0) xs in
      (v ∷ r.0, r.1 ∙ append_assoc vs (v ∷ []) r.0)

  -- each node adds one value
  length_values_on : (vs : List Bool) (t : ℕ) (ns : List Node) → length (values_on how a J vs t ns) ≡ length vs + length ns
  length_values_on vs t [] = omega arith
  length_values_on vs t (x ∷ xs) =
      let v = value_of how a J vs t x in
      omega (arith, length_values_on (vs ++ (v ∷ [])) (t + cond (temporal x) 1 0) xs, length_push vs v)

  -- a node's value, behind those so far, is one step of all
  values_on_at : (vs : List Bool) (t : ℕ) (ns : List Node) (k : ℕ) → k < length ns → Fits (length vs + k) (get_or ns k True)
      → get_or (values_on how a J vs t ns) (length vs + k) false ≡ value_of how a J (values_on how a J vs t ns) (t + rank ns k) (get_or ns k True)
  values_on_at vs t [] k l f = let z : ⊥ = omega arith in absurd z
  values_on_at vs t (x ∷ xs) zero l f =
      let v = value_of how a J vs t x in
      let q = values_begin (vs ++ (v ∷ [])) (t + cond (temporal x) 1 0) xs in
      let e : values_on how a J vs t (x ∷ xs) ≡ vs ++ (v ∷ q.0) = q.1 ∙ append_assoc vs (v ∷ []) q.0 in
      let n : length vs ≡ length vs + 0 = omega arith in
      let s : t ≡ t + rank (x ∷ xs) 0 = omega arith in
      ap (λ l. get_or l (length vs + 0) false) e ∙ get_or_at vs v q.0 false (length vs + 0) n
      ∙ value_same vs (values_on how a J vs t (x ∷ xs)) (length vs + 0) t x f
      (λ j b. sym (ap (λ l. get_or l j false) e ∙ get_or_append_left vs (v ∷ q.0) false j (omega arith)))
      ∙ ap (λ m. value_of how a J (values_on how a J vs t (x ∷ xs)) m x) s
  values_on_at vs t (x ∷ xs) (suc k) l f =
      let v = value_of how a J vs t x in
      let u = t + cond (temporal x) 1 0 in
      let V = values_on how a J (vs ++ (v ∷ [])) u xs in
      let n : length (vs ++ (v ∷ [])) + k ≡ length vs + suc k = omega (arith, length_push vs v) in
      let s : u + rank xs k ≡ t + rank (x ∷ xs) (suc k) = omega (arith, temporals_cons x (take k xs)) in
      ap (λ m. get_or V m false) (sym n)
      ∙ values_on_at (vs ++ (v ∷ [])) u xs k (omega arith) (subst (λ m. Fits m (get_or xs k True)) (sym n) f)
      ∙ ap (λ m. value_of how a J V m (get_or xs k True)) s

module _ (how : Node → Bool → Bool → Bool) (ns : List Node) (tidy : Tidy ns) (a J : ℕ) where
  -- there is a value for each node
  pub length_values : length (values how ns a J) ≡ length ns
  length_values = omega (arith, length_values_on how a J [] 0 ns)

  -- the value of a node is one step of the values
  pub value_at : (k : ℕ) → k < length ns → get_or (values how ns a J) k false ≡ value_of how a J (values how ns a J) (rank ns k) (get_or ns k True)
  value_at k l =
      let n : 0 + k ≡ k = omega arith in
      let s : 0 + rank ns k ≡ rank ns k = omega arith in
      ap (λ m. get_or (values how ns a J) m false) (sym n)
      ∙ values_on_at how a J [] 0 ns k l (subst (λ m. Fits m (get_or ns k True)) (sym n) (tidy k l))
      ∙ ap (λ m. value_of how a J (values how ns a J) m (get_or ns k True)) s

  -- whatever solves these equations is the values
  pub value_unique : (vs : List Bool) → length vs ≡ length ns
      → ((k : ℕ) → k < length ns → get_or vs k false ≡ value_of how a J vs (rank ns k) (get_or ns k True)) → values how ns a J ≡ vs
  value_unique vs e solves =
      ext_get_or false (values how ns a J) vs (omega (arith, length_values))
      (λ k l. each_below (length ns) (λ j. get_or (values how ns a J) j false ≡ get_or vs j false) step k (omega (arith, length_values)))
    where
      step : (k : ℕ) → k < length ns → ((j : ℕ) → j < k → get_or (values how ns a J) j false ≡ get_or vs j false)
          → get_or (values how ns a J) k false ≡ get_or vs k false
      step k l before = value_at k l ∙ value_same how a J (values how ns a J) vs k (rank ns k) (get_or ns k True) (tidy k l) before ∙ sym (solves k l)

-- a temporal node holds at a letter and a forecast exactly when it is in the forecast
pub holds_temporal : (ns : List Node) (tidy : Tidy ns) (a J k : ℕ) → k < length ns → temporal (get_or ns k True) ≡ true → holds_at ns a J k ≡ bit (rank ns k) J
holds_temporal ns tidy a J k l h = value_at kept ns tidy a J k l ∙ go (get_or ns k True) h
  where
    go : (x : Node) → temporal x ≡ true → value_of kept a J (values kept ns a J) (rank ns k) x ≡ bit (rank ns k) J
    go True e = absurd (false≢true e)
    go False e = absurd (false≢true e)
    go (Atom b) e = absurd (false≢true e)
    go (NotAtom b) e = absurd (false≢true e)
    go (And i j) e = absurd (false≢true e)
    go (Or i j) e = absurd (false≢true e)
    go (Eventually i) e = refl
    go (Always i) e = refl
