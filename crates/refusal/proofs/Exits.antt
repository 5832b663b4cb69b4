-- What leaves a function by `?`. Assumes nothing.
use Rattle.std.proofs.Common.{◌≡◌, IsErrAnd, Err, Result, ap, ◌∙◌}
use Rattle.std.proofs.lemmas.Result.{err_from_is_err_and}
use Rattle.refusal.specs.declared.Refusal.{Refusal}
use Rattle.refusal.specs.Answers.{Said, said, answer}

-- equal refusals are told alike
pub told : {A : Type 0} {e e' : Refusal} → e ≡ e' → ◌≡◌ {A = Result A Said} (Err (said e)) (Err (said e'))
told h = ap (λ x. Err (said x)) h

-- a refusal handed on by `?` is told as it was
pub handed_on : {A B : Type 0} (e : Refusal) (seen : A → B) (r : Result A Refusal) → IsErrAnd r (λ y. y ≡ e) → answer seen r ≡ Err (said e)
handed_on e seen r h = let p = err_from_is_err_and r h in ap (answer seen) p.1 ∙ ap (λ y. Err (said y)) p.2
