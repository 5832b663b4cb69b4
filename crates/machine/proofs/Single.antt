-- A judgement is unique. Assumes nothing.
use Rattle.std.proofs.Common.{◌≡◌, ℕ, ◌<◌, List, Ok, Err, Result, arith}
use native.Mathlib.Decide.{dec_lt}
use Rattle.refusal.specs.Answers.{Said}
use Rattle.machine.specs.Machines.{Machine}
use Rattle.machine.specs.Judging.{Passes}
use Rattle.machine.specs.Judging.Judged.{unsound, full, yes_by, no_pair}
use Rattle.machine.specs.Laws.{OneJudgement}

-- two numbers with a property that no smaller number has are equal
pub least_one : (P : ℕ → Type 0) (a b : ℕ) → P a → P b → ((i : ℕ) → i < a → P i → ⊥) → ((i : ℕ) → i < b → P i → ⊥) → a ≡ b
least_one P a b x y f g = elim (dec_lt a b) [
  | yes l ↦ absurd (g a l x)
  | no l ↦ elim (dec_lt b a) [ yes h ↦ absurd (f b h y) | no h ↦ omega arith ]
]

-- a round is not both refused and sound
pub clash : (r : Result (Unit {0}) Said) (e : Said) {A : Type 0} → r ≡ Err e → r ≡ Ok tt → A
clash r e p q = let z : ◌≡◌ {A = ℕ} 0 1 = cc in let n : ⊥ = omega arith in absurd n

-- the number of passes is unique
pub one_passes : {S : Type 0} (m : Machine S) (lead cycle : List ℕ) (k k' : ℕ) → Passes m lead cycle k → Passes m lead cycle k' → k ≡ k'
one_passes m lead cycle k k' p q = least_one _ k k' p.recurs q.recurs p.least q.least

-- a judgement is unique
pub one_judgement : {S : Type 0} → OneJudgement S
one_judgement m lead cycle places o o' (unsound e s) (unsound e' s') = cc
one_judgement m lead cycle places o o' (unsound e s) (full s' f) = clash _ e s s'
one_judgement m lead cycle places o o' (unsound e s) (yes_by p k s' n l a f) = clash _ e s s'
one_judgement m lead cycle places o o' (unsound e s) (no_pair k s' n l f) = clash _ e s s'
one_judgement m lead cycle places o o' (full s f) (unsound e' s') = clash _ e' s' s
one_judgement m lead cycle places o o' (full s f) (full s' f') = cc
one_judgement m lead cycle places o o' (full s f) (yes_by p k s' n l a f') = absurd (f k l n)
one_judgement m lead cycle places o o' (full s f) (no_pair k s' n l f') = absurd (f k l n)
one_judgement m lead cycle places o o' (yes_by p k s n l a f) (unsound e' s') = clash _ e' s' s
one_judgement m lead cycle places o o' (yes_by p k s n l a f) (full s' f') = absurd (f' k l n)
one_judgement m lead cycle places o o' (yes_by p k s n l a f) (yes_by p' k' s' n' l' a' f') =
    let e = one_passes m lead cycle k k' n n' in
    let d = least_one _ p p' a a' f f' in
    cc
one_judgement m lead cycle places o o' (yes_by p k s n l a f) (no_pair k' s' n' l' f') = absurd (f' p a)
one_judgement m lead cycle places o o' (no_pair k s n l f) (unsound e' s') = clash _ e' s' s
one_judgement m lead cycle places o o' (no_pair k s n l f) (full s' f') = absurd (f' k l n)
one_judgement m lead cycle places o o' (no_pair k s n l f) (yes_by p' k' s' n' l' a' f') = absurd (f p' a')
one_judgement m lead cycle places o o' (no_pair k s n l f) (no_pair k' s' n' l' f') = let e = one_passes m lead cycle k k' n n' in cc
