-- Steady forecasts: those that can stay as they are for ever.
use Rattle.std.specs.Prelude.{ℕ, ◌^◌, Bool, false, not, ◌&&◌, List, length, slice_index_or}
use Rattle.ltl.specs.declared.Node.{Node}
use Rattle.ltl.specs.declared.Node.TheVariants.{True, False, Atom, NotAtom, And, Or, Eventually, Always}
use Rattle.ltl.specs.Words.{bit}
use Rattle.forecast.specs.Bounded.{some, all}
use Rattle.forecast.specs.Forecasts.{rank, holds_at}

-- whether node k is an F, or a G, and its part passes a test
abbrev pub on_f : (ℕ → Bool) → Node → Bool
on_f test True = false
on_f test False = false
on_f test (Atom a) = false
on_f test (NotAtom a) = false
on_f test (And i j) = false
on_f test (Or i j) = false
on_f test (Eventually q) = test q
on_f test (Always q) = false

abbrev pub on_g : (ℕ → Bool) → Node → Bool
on_g test True = false
on_g test False = false
on_g test (Atom a) = false
on_g test (NotAtom a) = false
on_g test (And i j) = false
on_g test (Or i j) = false
on_g test (Eventually q) = false
on_g test (Always q) = test q

module _ (n : ℕ) (ns : List Node) (I : ℕ) where
  abbrev pub within : ℕ → Bool
  within k = bit (rank ns k) I

  -- F q within I whose part passes; F q outside; G q within; G q outside
  abbrev pub each_f : (ℕ → Bool) → ℕ → Bool
  each_f test k = within k && on_f test (slice_index_or ns k True)

  abbrev pub other_f : (ℕ → Bool) → ℕ → Bool
  other_f test k = not (within k) && on_f test (slice_index_or ns k True)

  abbrev pub each_g : (ℕ → Bool) → ℕ → Bool
  each_g test k = within k && on_g test (slice_index_or ns k True)

  abbrev pub other_g : (ℕ → Bool) → ℕ → Bool
  other_g test k = not (within k) && on_g test (slice_index_or ns k True)

  -- a letter at which some G q within I has q fail
  abbrev pub breaks : ℕ → Bool
  breaks a = some (length ns) (each_g (λ q. not (holds_at ns a I q)))

  -- the allowed letters: q holds for each G q within I and for no F q outside I
  abbrev pub allowed : ℕ → Bool
  allowed a = not (breaks a) && not (some (length ns) (other_f (λ q. holds_at ns a I q)))

  -- no allowed letter has q hold, or fail
  abbrev pub never_holds : ℕ → Bool
  never_holds q = not (some (2 ^ n) (λ a. allowed a && holds_at ns a I q))

  abbrev pub never_fails : ℕ → Bool
  never_fails q = not (some (2 ^ n) (λ a. allowed a && not (holds_at ns a I q)))

  -- some letter is allowed, each F q within I has an allowed letter where q holds, each G q outside I has one where q fails
  abbrev pub steady : Bool
  steady = some (2 ^ n) allowed && (not (some (length ns) (each_f never_holds)) && not (some (length ns) (other_g never_fails)))

  -- an F within I gives a visit set, unless every letter meets it
  abbrev pub visiting : ℕ → Bool
  visiting k = each_f (λ q. not (all (2 ^ n) (λ a. holds_at ns a I q))) k
