-- Numbers gathered from tests.
use Rattle.std.specs.Prelude.{ℕ, zero, suc, ◌+◌, ◌^◌, Bool, cond}

-- the number of m bits whose bit k says whether the test passes at base + k
unfoldable pub gathered : (ℕ → Bool) → ℕ → ℕ → ℕ
gathered test base zero = 0
gathered test base (suc m) = gathered test base m + cond (test (base + m)) (2 ^ m) 0
