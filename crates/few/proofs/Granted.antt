-- What is known of a list of few items, and of a call that is granted exactly where there is room. Assumes nothing.
use Rattle.std.proofs.Common.{◌≡◌, ℕ, ◌<◌, ◌≤◌, length, Result, Ok, Err, IsOk, OnOk, is_ok, sym, ap, ◌∙◌, inl, inr, arith, length-take}
use Rattle.std.proofs.lemmas.Bool.{false≢true, cases_lt}
use Rattle.few.specs.declared.held.Few.{Few}
use Rattle.few.specs.Items.{items}

-- never more than fit
pub items_few : {T : Type 0} {N : ℕ} (list : Few T N) → length (items list) ≤ N
items_few list = let few = list.few in omega (arith, length-take list.count list.places)

-- where there is room, what a granted call leaves
pub granted : {A E P Q : Type 0} (r : Result A E) → (Q → IsOk r) → OnOk r P → Q → P
granted (Ok a) room ok q = ok
granted (Err e) room ok q = absurd (false≢true (room q))

-- a refused call tells that there was none
pub full : {A E : Type 0} (r : Result A E) {e : E} (n m : ℕ) → (n < m → IsOk r) → r ≡ Err e → m ≤ n
full r n m room is = elim (cases_lt n m) [ inl l ↦ absurd (false≢true (sym (ap is_ok is) ∙ room l)) | inr l ↦ l ]
