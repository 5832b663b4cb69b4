-- The tags of a sheet's fields, run through from what is due. Assumes nothing.
use Rattle.std.proofs.Common.{◌≡◌, ℕ, Bool, true, false, cond, eqb, ◌⊎◌, List, [], ◌∷◌, ◌++◌, map, Ok, Err, Result, sym, refl, ap, ◌∙◌, inl, inr}
use mathlib.Core.Path.{fun_ext}
use Rattle.std.specs.List.{flat_map}
use Rattle.std.proofs.lemmas.Bool.{eqb-true}
use Rattle.refusal.specs.Answers.{Said, and_then}
use Rattle.sheet.specs.declared.order.Due.{Due}
use Rattle.sheet.specs.declared.order.Due.TheVariants.{NameOrRule, LeadIn, Cycle}
use Rattle.sheet.specs.Layout.{misplaced, after}
use Rattle.sheet.specs.Laws.{Content, tags_of}

-- what is due behind fields with these tags; places do not matter here
abbrev pub run : Due → List ℕ → Result Due Said
run d [] = Ok d
run d (t ∷ ts) = and_then (after d t 0) (λ e. run e ts)

-- a step behind two others may be taken behind the second alone
pub and_then_assoc : {A B C : Type 0} (r : Result A Said) (f : A → Result B Said) (g : B → Result C Said)
    → and_then (and_then r f) g ≡ and_then r (λ a. and_then (f a) g)
and_then_assoc (Ok a) f g = refl
and_then_assoc (Err e) f g = refl

-- tags in two stretches are run through one after the other
pub run_append : (d : Due) (ts us : List ℕ) → run d (ts ++ us) ≡ and_then (run d ts) (λ e. run e us)
run_append d [] us = refl
run_append d (t ∷ ts) us =
    ap (and_then (after d t 0)) (fun_ext (λ e. run_append e ts us)) ∙ sym (and_then_assoc (after d t 0) (λ e. run e ts) (λ e. run e us))

-- an answer that depends on a place: either the same thing is due whatever the place is, or each place is refused
abbrev pub Either : (ℕ → Result Due Said) → Type 0
Either f = ((e : Due) × ((p : ℕ) → f p ≡ Ok e)) ⊎ ((p : ℕ) → f p ≡ misplaced p)

-- a test more keeps that
test_more : (b : Bool) (e : Due) {f : ℕ → Result Due Said} → Either f → Either (λ p. cond b (Ok e) (f p))
test_more true e h = inl (e, λ p. refl)
test_more false e h = h

-- a tag may stand where d is due, at any place, or it is misplaced at any
pub stepped : (d : Due) (t : ℕ) → Either (after d t)
stepped NameOrRule t = test_more (eqb t 1) NameOrRule (test_more (eqb t 2) LeadIn (inr (λ p. refl)))
stepped LeadIn t = test_more (eqb t 3) Cycle (inr (λ p. refl))
stepped Cycle t = test_more (eqb t 4) LeadIn (inr (λ p. refl))

-- a first tag that is run through is stepped over
pub run_step : (d : Due) (t : ℕ) (ts : List ℕ) (g : Due) → run d (t ∷ ts) ≡ Ok g → (e : Due) × ((p : ℕ) → after d t p ≡ Ok e) × (run e ts ≡ Ok g)
run_step d t ts g h = go (stepped d t)
  where
    go : Either (after d t) → (e : Due) × ((p : ℕ) → after d t p ≡ Ok e) × (run e ts ≡ Ok g)
    go (inl s) = (s.0, s.1, sym (ap (λ r. and_then r (λ e. run e ts)) (s.1 0)) ∙ h)
    go (inr w) =
        let c : misplaced {A = Due} 0 ≡ Ok g = sym (ap (λ r. and_then r (λ e. run e ts)) (w 0)) ∙ h in
        absurd (cc)

-- a choice between a thing due and a refusal that is run through was the first
chosen : (b : Bool) (e : Due) (ts : List ℕ) (g : Due) → and_then (cond b (Ok e) (misplaced 0)) (λ x. run x ts) ≡ Ok g → (b ≡ true) × (run e ts ≡ Ok g)
chosen true e ts g h = (refl, h)
chosen false e ts g h = absurd (cc)

-- where a name or the rule is due, the tag is 1 or 2
pub from_name : (t : ℕ) (ts : List ℕ) (g : Due) → run NameOrRule (t ∷ ts) ≡ Ok g → ((t ≡ 1) × (run NameOrRule ts ≡ Ok g)) ⊎ ((t ≡ 2) × (run LeadIn ts ≡ Ok g))
from_name t ts g = go (eqb t 1) refl
  where
    two : Result Due Said
    two = cond (eqb t 2) (Ok LeadIn) (misplaced 0)

    go : (b : Bool) → eqb t 1 ≡ b → and_then (cond b (Ok NameOrRule) two) (λ x. run x ts) ≡ Ok g
        → ((t ≡ 1) × (run NameOrRule ts ≡ Ok g)) ⊎ ((t ≡ 2) × (run LeadIn ts ≡ Ok g))
    go true e k = inl (eqb-true t 1 e, k)
    go false e k = let c = chosen (eqb t 2) LeadIn ts g k in inr (eqb-true t 2 c.0, c.1)

-- where a lead-in is due it is 3
pub from_lead : (t : ℕ) (ts : List ℕ) (g : Due) → run LeadIn (t ∷ ts) ≡ Ok g → (t ≡ 3) × (run Cycle ts ≡ Ok g)
from_lead t ts g h = let c = chosen (eqb t 3) Cycle ts g h in (eqb-true t 3 c.0, c.1)

-- where a cycle is due it is 4
pub from_cycle : (t : ℕ) (ts : List ℕ) (g : Due) → run Cycle (t ∷ ts) ≡ Ok g → (t ≡ 4) × (run LeadIn ts ≡ Ok g)
from_cycle t ts g h = let c = chosen (eqb t 4) LeadIn ts g h in (eqb-true t 4 c.0, c.1)

-- the rounds' tags lead back to where a lead-in is due
run_rounds : (rs : List (List ℕ × List ℕ)) → run LeadIn (flat_map (λ _. 3 ∷ 4 ∷ []) rs) ≡ Ok LeadIn
run_rounds [] = refl
run_rounds (r ∷ rs) = run_rounds rs

-- every sheet's tags run through, to where a sheet may end
pub run_sheet : (s : Content) → run NameOrRule (tags_of s) ≡ Ok LeadIn
run_sheet s = go s.names
  where
    go : (ns : List (List ℕ)) → run NameOrRule (map (λ _. 1) ns ++ (2 ∷ flat_map (λ _. 3 ∷ 4 ∷ []) s.rounds)) ≡ Ok LeadIn
    go [] = run_rounds s.rounds
    go (n ∷ ns) = go ns

module _ (ts : List ℕ) (d : Due) (here : run NameOrRule ts ≡ Ok d) where
  -- a tag that is misplaced where d is due goes on no sheet's tags
  pub no_sheet_on : (t : ℕ) → ((p : ℕ) → after d t p ≡ misplaced p) → (s : Content) (others : List ℕ) → ts ++ (t ∷ others) ≡ tags_of s → ⊥
  no_sheet_on t w s others e =
      let c : Ok LeadIn ≡ misplaced {A = Due} 0 =
      sym (run_sheet s) ∙ ap (run NameOrRule) (sym e) ∙ run_append NameOrRule ts (t ∷ others)
      ∙ ap (λ r. and_then r (λ x. run x (t ∷ others))) here ∙ ap (λ r. and_then r (λ x. run x others)) (w 0) in
      cc

  -- a sheet's tags end where a lead-in is due
  pub sheet_ends : (s : Content) → ts ≡ tags_of s → d ≡ LeadIn
  sheet_ends s e = let c : ◌≡◌ {A = Result Due Said} (Ok d) (Ok LeadIn) = sym here ∙ ap (run NameOrRule) e ∙ run_sheet s in cc
