-- The turned machine is judged as the machine is. Assumes nothing.
use Rattle.std.proofs.Common.{refl}
use Rattle.machine.specs.Judging.Judged.{unsound, full, yes_by, no_pair}
use Rattle.machine.proofs.Single.{least_one, clash}
use Rattle.turning.specs.Laws.{KeepsVerdict}
use Rattle.turning.proofs.Turning.{machine_accepts, turned_accepts}

-- what is judged of both agrees
pub keeps_verdict : {S : Type 0} → KeepsVerdict S
keeps_verdict m few lead cycle places places' o o' (unsound e s) (unsound e' s') = cc
keeps_verdict m few lead cycle places places' o o' (unsound e s) (full s' f') = clash _ e s s'
keeps_verdict m few lead cycle places places' o o' (unsound e s) (yes_by x k s' n l a f) = clash _ e s s'
keeps_verdict m few lead cycle places places' o o' (unsound e s) (no_pair k s' n l f) = clash _ e s s'
keeps_verdict m few lead cycle places places' o o' (full s f) (unsound e s') = clash _ e s' s
keeps_verdict m few lead cycle places places' o o' (full s f) (full s' f') = refl
keeps_verdict m few lead cycle places places' o o' (full s f) (yes_by x k s' n l a f') = refl
keeps_verdict m few lead cycle places places' o o' (full s f) (no_pair k s' n l f') = refl
keeps_verdict m few lead cycle places places' o o' (yes_by x k s n l a f) (unsound e s') = clash _ e s' s
keeps_verdict m few lead cycle places places' o o' (yes_by x k s n l a f) (full s' f') = refl
keeps_verdict m few lead cycle places places' o o' (yes_by x k s n l a f) (yes_by x' k' s' n' l' a' f') =
    least_one _ x x' (machine_accepts m few _ x a) a' (λ i h b. f i h (turned_accepts m few _ i b)) f'
keeps_verdict m few lead cycle places places' o o' (yes_by x k s n l a f) (no_pair k' s' n' l' f') = absurd (f' x (machine_accepts m few _ x a))
keeps_verdict m few lead cycle places places' o o' (no_pair k s n l f) (unsound e s') = clash _ e s' s
keeps_verdict m few lead cycle places places' o o' (no_pair k s n l f) (full s' f') = refl
keeps_verdict m few lead cycle places places' o o' (no_pair k s n l f) (yes_by x k' s' n' l' a' f') = absurd (f x (turned_accepts m few _ x a'))
keeps_verdict m few lead cycle places places' o o' (no_pair k s n l f) (no_pair k' s' n' l' f') = tt
