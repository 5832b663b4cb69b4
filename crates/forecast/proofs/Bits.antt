-- The bits of a forecast that is gathered from values. Assumes nothing.
use Rattle.std.proofs.Common.{◌≡◌, ℕ, zero, suc, ◌+◌, ◌*◌, ◌/◌, ◌%◌, ◌^◌, ◌<◌, ◌≤◌, Bool, true, false, cond, eqb, List, [], ◌∷◌, length, get_or, take, sym, refl, ap, ◌∙◌, subst, ap₂, mul_assoc, mul_comm, add-mul, zero-mul, arith}
use Rattle.std.proofs.lemmas.Bool.{cond-true}
use Rattle.std.proofs.lemmas.Nat.{pow_pos, pow-add, shr-shr}
use Rattle.std.proofs.lemmas.List.Sums.{sum_by-cons, sum_by_more}
use Rattle.ltl.specs.declared.Node.{Node}
use Rattle.ltl.specs.declared.Node.TheVariants.{True}
use Rattle.ltl.specs.Words.{bit}
use Rattle.ltl.specs.Arena.{temporal, temporals}
use Rattle.forecast.specs.Bounded.{count}
use Rattle.forecast.specs.Forecasts.{rank, gather}

-- bit 0 of a number made by doubling is what was put in last
bit_first : (v : Bool) (m : ℕ) → bit 0 (cond v 1 0 + m * 2) ≡ v
bit_first true m = let e : ((1 + m * 2) / 1) % 2 ≡ 1 = omega arith in ap (λ x. eqb x 1) e
bit_first false m = let e : ((0 + m * 2) / 1) % 2 ≡ 0 = omega arith in ap (λ x. eqb x 1) e

-- and the others are those of the number that was doubled
bit_next : (v : Bool) (k m : ℕ) → bit (1 + k) (cond v 1 0 + m * 2) ≡ bit k m
bit_next v k m = ap (λ x. eqb (x % 2) 1) (sym (shr-shr (cond v 1 0 + m * 2) 1 k) ∙ ap (λ x. x / 2 ^ k) (go v))
  where
    go : (v : Bool) → (cond v 1 0 + m * 2) / 2 ^ 1 ≡ m
    go true = omega arith
    go false = omega arith

-- one temporal node more, or none
pub temporals_cons : (x : Node) (xs : List Node) → temporals (x ∷ xs) ≡ cond (temporal x) 1 0 + temporals xs
temporals_cons x xs = sum_by-cons (λ y. cond (temporal y) 1 0) x xs

-- the same forecast by doubling, from the last node on
packed : List Node → List Bool → ℕ
packed [] vs = 0
packed (x ∷ xs) [] = 0
packed (x ∷ xs) (v ∷ vs) = cond (temporal x) (cond v 1 0 + packed xs vs * 2) (packed xs vs)

-- one more bit, below those of m
joined_bit : (v : Bool) (t m : ℕ) → cond v (2 ^ t) 0 + m * 2 ^ (t + 1) ≡ (cond v 1 0 + m * 2) * 2 ^ t
joined_bit v t m =
    ap₂ (λ a b. a + b) (go v) (ap (λ c. m * c) (pow-add 2 t 1 ∙ mul_comm (2 ^ t) 2) ∙ sym (mul_assoc m 2 (2 ^ t)))
    ∙ sym (add-mul (cond v 1 0) (m * 2) (2 ^ t))
  where
    go : (v : Bool) → cond v (2 ^ t) 0 ≡ cond v 1 0 * 2 ^ t
    go true = omega arith
    go false = omega arith

-- what is gathered from bit t on is the packed forecast moved up by t bits
gather_packed : (t : ℕ) (ns : List Node) (vs : List Bool) → gather t ns vs ≡ packed ns vs * 2 ^ t
unfolding packed
gather_packed t [] vs = omega (arith, zero-mul (2 ^ t))
gather_packed t (x ∷ xs) [] = omega (arith, zero-mul (2 ^ t))
gather_packed t (x ∷ xs) (v ∷ vs) = go (temporal x) (gather_packed (t + 1) xs vs) (gather_packed t xs vs)
  where
    go : (b : Bool) → gather (t + 1) xs vs ≡ packed xs vs * 2 ^ (t + 1) → gather t xs vs ≡ packed xs vs * 2 ^ t
        → cond b (cond v (2 ^ t) 0 + gather (t + 1) xs vs) (gather t xs vs) ≡ cond b (cond v 1 0 + packed xs vs * 2) (packed xs vs) * 2 ^ t
    go true e f = ap (λ m. cond v (2 ^ t) 0 + m) e ∙ joined_bit v t (packed xs vs)
    go false e f = f

-- and from bit 0 on it is the packed forecast
gather_all : (ns : List Node) (vs : List Bool) → gather 0 ns vs ≡ packed ns vs
gather_all ns vs = omega (arith, gather_packed 0 ns vs)

-- the bit of a temporal node in the packed forecast is its value
packed_bit : (ns : List Node) (vs : List Bool) (k : ℕ) → length vs ≡ length ns → k < length ns → temporal (get_or ns k True) ≡ true
    → bit (rank ns k) (packed ns vs) ≡ get_or vs k false
unfolding packed
packed_bit [] vs k e l h = let z : ⊥ = omega arith in absurd z
packed_bit (x ∷ xs) [] k e l h = let z : ⊥ = omega arith in absurd z
packed_bit (x ∷ xs) (v ∷ vs) zero e l h = ap (bit 0) (cond-true (temporal x) _ _ h) ∙ bit_first v (packed xs vs)
packed_bit (x ∷ xs) (v ∷ vs) (suc k) e l h =
    ap (λ t. bit t (packed (x ∷ xs) (v ∷ vs))) (temporals_cons x (take k xs)) ∙ go (temporal x) ∙ packed_bit xs vs k (omega arith) (omega arith) h
  where
    go : (b : Bool) → bit (cond b 1 0 + rank xs k) (cond b (cond v 1 0 + packed xs vs * 2) (packed xs vs)) ≡ bit (rank xs k) (packed xs vs)
    go true = bit_next v (rank xs k) (packed xs vs)
    go false = ap (λ t. bit t (packed xs vs)) (omega arith)

-- the bit of a temporal node is its value
pub gather_bit : (ns : List Node) (vs : List Bool) (k : ℕ) → length vs ≡ length ns → k < length ns → temporal (get_or ns k True) ≡ true
    → bit (rank ns k) (gather 0 ns vs) ≡ get_or vs k false
gather_bit ns vs k e l h = ap (bit (rank ns k)) (gather_all ns vs) ∙ packed_bit ns vs k e l h

-- a packed forecast has as many bits as there are temporal nodes
packed_below : (ns : List Node) (vs : List Bool) → packed ns vs < 2 ^ temporals ns
unfolding packed
packed_below [] vs = pow_pos 0
packed_below (x ∷ xs) [] = pow_pos (temporals (x ∷ xs))
packed_below (x ∷ xs) (v ∷ vs) = subst (λ t. packed (x ∷ xs) (v ∷ vs) < 2 ^ t) (sym (temporals_cons x xs)) (go (temporal x) v (packed_below xs vs))
  where
    go : (b v : Bool) → packed xs vs < 2 ^ temporals xs → cond b (cond v 1 0 + packed xs vs * 2) (packed xs vs) < 2 ^ (cond b 1 0 + temporals xs)
    go true true h = omega (arith, pow-add 2 1 (temporals xs))
    go true false h = omega (arith, pow-add 2 1 (temporals xs))
    go false v h = subst (λ t. packed xs vs < 2 ^ t) (omega arith) h

-- a forecast has no bits beyond those of the temporal nodes
pub gather_below : (ns : List Node) (vs : List Bool) → gather 0 ns vs < 2 ^ temporals ns
gather_below ns vs = omega (arith, gather_all ns vs, packed_below ns vs)

-- values that agree on the temporal nodes are packed the same
packed_same : (ns : List Node) (us vs : List Bool) → length us ≡ length ns → length vs ≡ length ns
    → ((k : ℕ) → k < length ns → temporal (get_or ns k True) ≡ true → get_or us k false ≡ get_or vs k false) → packed ns us ≡ packed ns vs
unfolding packed
packed_same [] us vs d e h = refl
packed_same (x ∷ xs) [] vs d e h = let z : ⊥ = omega arith in absurd z
packed_same (x ∷ xs) (u ∷ us) [] d e h = let z : ⊥ = omega arith in absurd z
packed_same (x ∷ xs) (u ∷ us) (v ∷ vs) d e h =
    go (temporal x) (h 0 (omega arith)) (packed_same xs us vs (omega arith) (omega arith) (λ k l. h (suc k) (omega arith)))
  where
    go : (b : Bool) → (b ≡ true → u ≡ v) → packed xs us ≡ packed xs vs
        → cond b (cond u 1 0 + packed xs us * 2) (packed xs us) ≡ cond b (cond v 1 0 + packed xs vs * 2) (packed xs vs)
    go true f r = ap₂ (λ c m. cond c 1 0 + m * 2) (f refl) r
    go false f r = r

-- values that agree on the temporal nodes give the same forecast
pub gather_same : (ns : List Node) (us vs : List Bool) → length us ≡ length ns → length vs ≡ length ns
    → ((k : ℕ) → k < length ns → temporal (get_or ns k True) ≡ true → get_or us k false ≡ get_or vs k false) → gather 0 ns us ≡ gather 0 ns vs
gather_same ns us vs d e h = gather_all ns us ∙ packed_same ns us vs d e h ∙ sym (gather_all ns vs)

-- the temporal nodes below k, counted by number or by list
pub count_temporals : (ns : List Node) (k : ℕ) → k ≤ length ns → count k (λ j. temporal (get_or ns j True)) ≡ rank ns k
unfolding count
count_temporals ns zero h = refl
count_temporals ns (suc k) h =
    let more : rank ns (k + 1) ≡ rank ns k + cond (temporal (get_or ns k True)) 1 0 = sum_by_more (λ y. cond (temporal y) 1 0) ns k True (omega arith) in
    let next : k + 1 ≡ suc k = omega arith in
    let e : rank ns (k + 1) ≡ rank ns (suc k) = ap (rank ns) next in
    omega (arith, count_temporals ns k (omega arith), more, e)
