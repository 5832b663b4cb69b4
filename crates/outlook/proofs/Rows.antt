-- A row of forecasts, one for each letter, made bit by bit from the words of the temporal nodes. Assumes nothing.
use Rattle.std.proofs.Common.{◌≡◌, ℕ, zero, suc, ◌+◌, ◌^◌, ◌<◌, ◌≤◌, Bool, true, false, cond, List, [], ◌∷◌, length, get_or, map, take, sym, refl, ap, ◌∙◌, ap₂, arith}
use Rattle.std.specs.List.{enumerate_from, filter, sum_by, zip}
use Rattle.std.proofs.lemmas.List.Sums.{sum_by-cons}
use Rattle.std.proofs.lemmas.Bool.{cond-true}
use Rattle.std.proofs.lemmas.Nat.{pow-add}
use Rattle.ltl.specs.declared.Node.{Node}
use Rattle.ltl.specs.declared.Node.TheVariants.{True}
use Rattle.ltl.specs.Words.{bit}
use Rattle.ltl.specs.Arena.{temporal, temporals}
use Rattle.forecast.specs.Forecasts.{rank, gather}
use Rattle.forecast.proofs.Bits.{temporals_cons}

-- the temporal nodes with their words
abbrev pub temporal_words : List Node → List ℕ → List (Node × ℕ)
temporal_words ns ws = filter (λ p. temporal p.0) (zip ns ws)

-- what a numbered word adds to the forecast of a letter
abbrev pub bit_value : ℕ → ℕ × (Node × ℕ) → ℕ
bit_value a p = cond (bit a p.1.1) (2 ^ p.0) 0

-- all of them add up to the forecast that is gathered from the values that the words tell
pub gather_words : (t : ℕ) (ns : List Node) (ws : List ℕ) (vs : List Bool) (a : ℕ) → length vs ≡ length ns → length ns ≤ length ws
    → ((k : ℕ) → k < length ns → bit a (get_or ws k 0) ≡ get_or vs k false) → sum_by (bit_value a) (enumerate_from t (temporal_words ns ws)) ≡ gather t ns vs
gather_words t [] ws vs a e l told = refl
gather_words t (x ∷ xs) [] vs a e l told = let z : ⊥ = omega arith in absurd z
gather_words t (x ∷ xs) (w ∷ ws) [] a e l told = let z : ⊥ = omega arith in absurd z
gather_words t (x ∷ xs) (w ∷ ws) (v ∷ vs) a e l told =
    go (temporal x) (λ u. gather_words u xs ws vs a (omega arith) (omega arith) (λ k h. told (suc k) (omega arith)))
  where
    go : (b : Bool) → ((u : ℕ) → sum_by (bit_value a) (enumerate_from u (temporal_words xs ws)) ≡ gather u xs vs)
        → sum_by (bit_value a) (enumerate_from t (cond b ((x, w) ∷ temporal_words xs ws) (temporal_words xs ws))) ≡ cond b (cond v (2 ^ t) 0 + gather (t + 1) xs vs) (gather t xs vs)
    go true rest =
        sum_by-cons (bit_value a) (t, (x, w)) (enumerate_from (t + 1) (temporal_words xs ws))
        ∙ ap₂ (λ c m. cond c (2 ^ t) 0 + m) (told 0 (omega arith)) (rest (t + 1))
    go false rest = rest t

-- there are as many words as temporal nodes
pub length_words : (ns : List Node) (ws : List ℕ) → length ns ≤ length ws → length (temporal_words ns ws) ≡ temporals ns
length_words [] ws l = refl
length_words (x ∷ xs) [] l = let z : ⊥ = omega arith in absurd z
length_words (x ∷ xs) (w ∷ ws) l = go (temporal x) (length_words xs ws (omega arith)) ∙ sym (temporals_cons x xs)
  where
    go : (b : Bool) → length (temporal_words xs ws) ≡ temporals xs → length (cond b ((x, w) ∷ temporal_words xs ws) (temporal_words xs ws)) ≡ cond b 1 0 + temporals xs
    go true h = omega arith
    go false h = omega arith

-- the first r of them give no bit from r on
bits_under : (t r : ℕ) (ps : List (Node × ℕ)) (a : ℕ) → r ≤ length ps → sum_by (bit_value a) (take r (enumerate_from t ps)) + 2 ^ t ≤ 2 ^ (t + r)
bits_under t zero ps a l = omega (arith, ap (λ j. 2 ^ j) (let z : t + 0 ≡ t = omega arith in z))
bits_under t (suc r) [] a l = let z : ⊥ = omega arith in absurd z
bits_under t (suc r) (p ∷ ps) a l =
    let first = sum_by-cons (bit_value a) (t, p) (take r (enumerate_from (t + 1) ps)) in
    omega (arith, first, go (bit a p.1) (bits_under (t + 1) r ps a (omega arith)))
  where
    wider : 2 ^ (t + suc r) ≡ 2 ^ ((t + 1) + r)
    wider = ap (λ j. 2 ^ j) (let z : t + suc r ≡ (t + 1) + r = omega arith in z)

    go : (b : Bool) → sum_by (bit_value a) (take r (enumerate_from (t + 1) ps)) + 2 ^ (t + 1) ≤ 2 ^ ((t + 1) + r)
        → (cond b (2 ^ t) 0 + sum_by (bit_value a) (take r (enumerate_from (t + 1) ps))) + 2 ^ t ≤ 2 ^ (t + suc r)
    go true h = omega (arith, wider, h, pow-add 2 t 1)
    go false h = omega (arith, wider, h, pow-add 2 t 1)

pub bits_below : (r : ℕ) (ps : List (Node × ℕ)) (a : ℕ) → r ≤ length ps → sum_by (bit_value a) (take r (enumerate_from 0 ps)) < 2 ^ r
bits_below r ps a l = omega (arith, bits_under 0 r ps a l, ap (λ j. 2 ^ j) (let z : 0 + r ≡ r = omega arith in z))

-- the same sum over what is read from each item
pub sum_by-map : {X Y : Type 0} (f : Y → ℕ) (v : X → Y) (xs : List X) → sum_by f (map v xs) ≡ sum_by (λ x. f (v x)) xs
sum_by-map f v [] = refl
sum_by-map f v (x ∷ xs) = sum_by-cons f (v x) (map v xs) ∙ ap (λ m. f (v x) + m) (sum_by-map f v xs) ∙ sym (sum_by-cons (λ x. f (v x)) x xs)

-- a temporal node is not the last bit but one of them
pub rank_below : (ns : List Node) (k : ℕ) → k < length ns → temporal (get_or ns k True) ≡ true → rank ns k < temporals ns
rank_below [] k l e = let z : ⊥ = omega arith in absurd z
rank_below (x ∷ xs) zero l e = omega (arith, temporals_cons x xs, cond-true {A = ℕ} (temporal x) 1 0 e)
rank_below (x ∷ xs) (suc k) l e = omega (arith, temporals_cons x xs, temporals_cons x (take k xs), rank_below xs k (omega arith) e)
