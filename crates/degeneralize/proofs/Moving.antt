-- The turns moved pair by pair. Assumes nothing.
use Rattle.std.proofs.Common.{◌≡◌, ℕ, zero, suc, ◌+◌, ◌<◌, ◌≤◌, min, ◌≢◌, List, ◌++◌, length, get_or, set, refl, sym, ap, ◌∙◌, ap₂, add-one, arith}
use native.Mathlib.Decide.{dec_lt}
use Rattle.std.proofs.lemmas.List.{get_or_append_left, get_or-set_other, set-append_left, set_past}
use Rattle.machine.specs.Machines.{Pairs}
use Rattle.turning.specs.Turns.{next_turn, next_turns}
use Rattle.turning.proofs.Turning.{turns_length}

module _ {S : Type 0} (pairs : Pairs S) (s : S) (turns : List ℕ) where
  -- the turn of a pair that is not reached is left
  pub turn_left : (n p : ℕ) → n ≤ p → get_or (next_turns pairs s turns n) p 0 ≡ get_or turns p 0
  turn_left zero p h = refl
  turn_left (suc n) p h = let ne : p ≢ n = omega arith in get_or-set_other (next_turns pairs s turns n) n p _ 0 ne ∙ turn_left n p (omega arith)

  -- one more turn is moved, in front of those that stay
  pub moved_more : (items rest : List ℕ) (n : ℕ) {v : ℕ} → n < length items → items ++ rest ≡ next_turns pairs s turns n →
      v ≡ next_turn pairs n s (get_or items n 0) → set items n v ++ rest ≡ next_turns pairs s turns (n + 1)
  moved_more items rest n h sofar e =
      let read = sym (get_or_append_left items rest 0 n h) ∙ ap (λ xs. get_or xs n 0) sofar ∙ turn_left n n (omega arith) in
      sym (set-append_left items rest n _ h)
      ∙ ap₂ (λ xs x. set xs n x) sofar (e ∙ ap (next_turn pairs n s) read)
      ∙ ap (next_turns pairs s turns) (sym (add-one n))

  -- past the last turn there is none to move
  pub moved_all : (n : ℕ) → next_turns pairs s turns (min n (length turns)) ≡ next_turns pairs s turns n
  moved_all zero = let none : min 0 (length turns) ≡ 0 = omega arith in ap (next_turns pairs s turns) none
  moved_all (suc n) = elim (dec_lt n (length turns)) [
    | yes h ↦ let all : min (suc n) (length turns) ≡ suc n = omega arith in ap (next_turns pairs s turns) all
    | no h ↦
        let past : length (next_turns pairs s turns n) ≤ n = omega (arith, turns_length pairs s turns n) in
        let same : min (suc n) (length turns) ≡ min n (length turns) = omega arith in
        ap (next_turns pairs s turns) same ∙ moved_all n ∙ sym (set_past (next_turns pairs s turns n) n _ past)
  ]
