-- A text has one outcome.
use Rattle.std.proofs.Common.{◌≡◌, ℕ, true, List, count_by, Result, refl, ap, subst, arith}
use Rattle.refusal.specs.declared.Layer.TheVariants.{Rule}
use Rattle.refusal.specs.Answers.{Said, refused}
use Rattle.ltl.specs.declared.Node.{Node}
use Rattle.ltl.specs.Formula.{Formula, is_temporal}
use Rattle.ltl.specs.Arena.{arena, temporals}
use Rattle.ltl.specs.Laws.{subformulae, Numbers}
use Rattle.names.specs.Names.{proper}
use Rattle.grammar.specs.Laws.{place_of, IsText, Outcome, Reading}
use Rattle.grammar.proofs.Spelling.{unique}
use Rattle.grammar.proofs.Naming.{named_once}
use Rattle.grammar.proofs.Sound.{code}
use Rattle.grammar.proofs.Halting.{one_halt, no_halt}
use Rattle.grammar.proofs.Outcomes.{verdict, Fate, fate_of, outcome}
use Rattle.grammar.proofs.Outcomes.Fate.{long, halted, done}

-- a text spells one formula
pub one_text : {names : List (List ℕ)} {text : List ℕ} → proper names ≡ true → (φ ψ : Formula ℕ) → IsText names text φ → IsText names text ψ → φ ≡ ψ
one_text {names} p φ ψ s t = named_once names p φ ψ s.known t.known (unique s.spelled t.spelled).0

-- a text has one fate
one_fate : {names : List (List ℕ)} {text : List ℕ} {o o' : Result (List Node) Said} → proper names ≡ true → Fate names text o → Fate names text o' → o ≡ o'
one_fate p (long h) (long g) = refl
one_fate p (long h) (halted i k l g) = let z : ⊥ = omega arith in absurd z
one_fate p (long h) (done φ t) = let s = t.short in let z : ⊥ = omega arith in absurd z
one_fate p (halted i k l h) (long g) = let z : ⊥ = omega arith in absurd z
one_fate {names} {text} p (halted i k l h) (halted j k' l' g) = let e = one_halt h g in same_refusal e.0 e.1
  where
    same_refusal : i ≡ j → k ≡ k' → ◌≡◌ {A = Result (List Node) Said} (refused (code k) Rule (place_of text i)) (refused (code k') Rule (place_of text j))
    same_refusal d c = cc
one_fate p (halted i k l h) (done φ t) = absurd (no_halt φ t.spelled t.known t.shallow h)
one_fate p (done φ t) (long g) = let s = t.short in let z : ⊥ = omega arith in absurd z
one_fate p (done φ t) (halted i k l h) = absurd (no_halt φ t.spelled t.known t.shallow h)
one_fate p (done φ t) (done ψ u) = ap verdict (one_text p φ ψ t u)

-- an outcome is the only one
pub one_outcome : {names : List (List ℕ)} {text : List ℕ} {o o' : Result (List Node) Said} → proper names ≡ true → Outcome names text o → Outcome names text o'
    → o ≡ o'
one_outcome p h g = one_fate p (fate_of h) (fate_of g)

-- each outcome of reading comes exactly under its own condition
pub reading_law : (numbering : (φ : Formula ℕ) → Numbers φ) (temporal_count : (φ : Formula ℕ) → temporals (arena φ) ≡ count_by is_temporal (subformulae φ)) → Reading
reading_law numbering temporal_count names p text o =
    (λ e. subst (Outcome names text) e (outcome numbering temporal_count names text), λ h. one_outcome p (outcome numbering temporal_count names text) h)
