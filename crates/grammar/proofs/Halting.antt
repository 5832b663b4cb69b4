-- The mark at which a reading ends early, by its number.
use Rattle.std.proofs.Common.{◌≡◌, ℕ, zero, suc, ◌+◌, ◌<◌, ◌≤◌, true, false, List, [], ◌∷◌, ◌++◌, length, get_or, take, drop, sym, refl, ap, ◌∙◌, subst, inl, inr, append_assoc, arith, length-append, length-drop}
use Rattle.std.proofs.lemmas.List.{take_at, take-take, take-append-drop, take-append-le, get_or_append_left, get_or_at}
use Rattle.std.proofs.lemmas.Bool.{both_ways, cases_order}
use Rattle.ltl.specs.Formula.{Formula, Below, depth}
use Rattle.names.specs.Names.{has}
use Rattle.grammar.specs.Marks.{Mark}
use Rattle.grammar.specs.Marks.Mark.{name, finish}
use Rattle.grammar.specs.Grammar.{Spells, IsRule, CanGoOn, Opens, Stuck}
use Rattle.grammar.specs.Laws.{Undeclared, DeclaredBefore, ShallowBefore}
use Rattle.grammar.specs.Writing.{named}
use Rattle.grammar.proofs.Spelling.{first_kind, extend, unique}
use Rattle.grammar.proofs.Going.{can_shorter, completes_can}
use Rattle.grammar.proofs.Depth.{opens_depth, depth_named}
use Rattle.grammar.proofs.Failing.{Reason, Good, Fails, Declared, DeclaredMark, reach, goes_on, stuck_there, deep_there, unknown_there, shallow_there, declared_there, good_declared}
use Rattle.grammar.proofs.Failing.Reason.{stuck, deep, unknown}

-- what each reason says of mark i
abbrev pub Why : List (List ℕ) → List Mark → ℕ → Reason → Type 0
Why names ms i stuck = Stuck ms i
Why names ms i deep = (i < length ms) × Opens 25 (take i ms) × CanGoOn (take (suc i) ms)
Why names ms i unknown = (i < length ms) × Undeclared names ms i × CanGoOn (take (suc i) ms) × ShallowBefore ms (suc i)

-- the reading of these marks ends at mark i for this reason
pub record Halts (names : List (List ℕ)) (ms : List Mark) (i : ℕ) (k : Reason) : Type 0 where
  pub bound : i ≤ length ms
  pub declared : DeclaredBefore names ms i
  pub shallow : ShallowBefore ms i
  pub why : Why names ms i k

-- a name among declared marks is declared
pub declared_at : (names : List (List ℕ)) (ms : List Mark) → Declared names ms → (j : ℕ) → j < length ms → (w : List ℕ) → get_or ms j finish ≡ name w
    → has names w ≡ true
declared_at names [] d j h w e = let z : ⊥ = omega arith in absurd z
declared_at names (m ∷ ms) d zero h w e = subst (DeclaredMark names) e d.0
declared_at names (m ∷ ms) d (suc j) h w e = declared_at names ms d.1 j (omega arith) w e

-- fewer marks can go on too
pub can_take : (ms : List Mark) (j i : ℕ) → j ≤ i → CanGoOn (take i ms) → CanGoOn (take j ms)
can_take ms j i h c = subst CanGoOn (take-take j i ms h) (can_shorter (take j (take i ms)) (drop j (take i ms))
    (subst CanGoOn (sym (take-append-drop j (take i ms))) c))

-- the marks before it can go on
goes_to : (names : List (List ℕ)) (ms : List Mark) (i : ℕ) (k : Reason) → Why names ms i k → CanGoOn (take i ms)
goes_to names ms i stuck w = w.before
goes_to names ms i deep w = can_take ms i (suc i) (omega arith) w.2
goes_to names ms i unknown w = can_take ms i (suc i) (omega arith) w.2

-- no reading that ends at mark i goes on to a later one
no_earlier : {names : List (List ℕ)} {ms : List Mark} {i j : ℕ} {k l : Reason} → Halts names ms i k → Halts names ms j l → i < j → ⊥
no_earlier {names} {ms} {i} {j} {k} {l} h g lt = go k h.why
  where
    go : (k' : Reason) → Why names ms i k' → ⊥
    go stuck w = w.at_mark (omega (arith, g.bound)) (can_take ms (suc i) j lt (goes_to names ms j l g.why))
    go deep w = g.shallow i lt w.0 w.1
    go unknown w = g.declared i lt w.0 w.1

-- at one mark there is one reason
same_why : (names : List (List ℕ)) (ms : List Mark) (i : ℕ) (k l : Reason) → Why names ms i k → Why names ms i l → k ≡ l
same_why names ms i stuck stuck v w = refl
same_why names ms i stuck deep v w = absurd (v.at_mark w.0 w.2)
same_why names ms i stuck unknown v w = absurd (v.at_mark w.0 w.2)
same_why names ms i deep stuck v w = absurd (w.at_mark v.0 v.2)
same_why names ms i deep deep v w = refl
same_why names ms i deep unknown v w = absurd (w.3 i (omega arith) v.0 v.1)
same_why names ms i unknown stuck v w = absurd (w.at_mark v.0 v.2)
same_why names ms i unknown deep v w = absurd (v.3 i (omega arith) w.0 w.1)
same_why names ms i unknown unknown v w = refl

-- a reading ends at one mark for one reason
pub one_halt : {names : List (List ℕ)} {ms : List Mark} {i j : ℕ} {k l : Reason} → Halts names ms i k → Halts names ms j l → (i ≡ j) × (k ≡ l)
one_halt {names} {ms} {i} {j} {k} {l} h g = elim (cases_order i j) [
  | inl e ↦ (e, same_why names ms i k l h.why (subst (λ x. Why names ms x l) (sym e) g.why))
  | inr o ↦ elim o [ inl lt ↦ absurd (no_earlier h g lt) | inr lt ↦ absurd (no_earlier g h lt) ]
]

-- the reading of a good formula's spelling does not end early
pub no_halt : {names : List (List ℕ)} {ms : List Mark} (φ : Formula ℕ) {i : ℕ} {k : Reason} → Spells (named names φ) ms [] → Below (length names) φ
    → depth φ ≤ 24 → Halts names ms i k → ⊥
no_halt {names} {ms} φ {i} {k} s b d h = go k h.why
  where
    whole : (j : ℕ) → Spells (named names φ) (take j ms ++ drop j ms) []
    whole j = subst (λ l. Spells (named names φ) l []) (sym (take-append-drop j ms)) s

    go : (k' : Reason) → Why names ms i k' → ⊥
    go stuck w = elim (cases_order i (length ms)) [
      | inl e ↦ w.at_end e (named names φ, s)
      | inr o ↦ elim o [ inl lt ↦ w.at_mark lt (drop (suc i) ms, (named names φ, whole (suc i))) | inr lt ↦ omega (arith, h.bound) ]
    ]
    go deep w = let e = opens_depth w.1 (drop i ms) (whole i) in let f = depth_named names φ in omega arith
    go unknown w = both_ways (has names w.1.0) w.1.2 (declared_at names ms (good_declared names φ s b tt) i w.0 w.1.0 w.1.1)

-- why a front is followed by nothing that is read
abbrev Cause : List (List ℕ) → Reason → List Mark → List Mark → Type 0
Cause names stuck front back = (tail : List Mark) → first_kind tail ≡ first_kind back → (χ : Formula (List ℕ)) → Spells χ (front ++ tail) [] → ⊥
Cause names deep front back = (m : Mark) × (rest : List Mark) × (back ≡ m ∷ rest) × CanGoOn (front ++ (m ∷ [])) × Opens 25 front
Cause names unknown front back = (w : List ℕ) × (rest : List Mark) × (back ≡ name w ∷ rest) × CanGoOn (front ++ (name w ∷ [])) × (has names w ≡ false)

pub record Stops (names : List (List ℕ)) (k : Reason) (front back : List Mark) : Type 0 where
  pub before : CanGoOn front
  pub declared : Declared names front
  pub shallow : (post : List Mark) → 0 < reach k + length post → (pre : List Mark) → Opens 25 pre → front ≡ pre ++ post → ⊥
  pub cause : Cause names k front back

-- a front and the next mark
take_next : (front : List Mark) (m : Mark) (back : List Mark) → take (suc (length front)) (front ++ (m ∷ back)) ≡ front ++ (m ∷ [])
take_next [] m back = refl
take_next (x ∷ front) m back = ap (λ (l : List Mark). x ∷ l) (take_next front m back)

-- what opens too deep in no front of the front opens so at no mark before its end
shallow_before : (k : Reason) (front back : List Mark) →
    ((post : List Mark) → 0 < reach k + length post → (pre : List Mark) → Opens 25 pre → front ≡ pre ++ post → ⊥)
    → (n : ℕ) → n ≤ reach k + length front → n ≤ suc (length front) → ShallowBefore (front ++ back) n
shallow_before k front back f n h l j j< _ o =
    f (drop j front) (omega (arith, length-drop j front)) (take j front) (subst (Opens 25) (take-append-le j front back (omega arith)) o)
    (sym (take-append-drop j front))

-- no rule goes on by the next mark
at_mark_from : (front back : List Mark) → ((tail : List Mark) → first_kind tail ≡ first_kind back → (χ : Formula (List ℕ)) → Spells χ (front ++ tail) [] → ⊥)
    → length front < length (front ++ back) → CanGoOn (take (suc (length front)) (front ++ back)) → ⊥
at_mark_from front [] f l c = omega (arith, length-append front [])
at_mark_from front (m ∷ back) f l c =
    let g = subst CanGoOn (take_next front m back) c in f (m ∷ g.0) refl g.1.0
    (subst (λ x. Spells g.1.0 x []) (append_assoc front (m ∷ []) g.0) g.1.1)

-- the marks are no rule
at_end_from : (front back : List Mark) → ((tail : List Mark) → first_kind tail ≡ first_kind back → (χ : Formula (List ℕ)) → Spells χ (front ++ tail) [] → ⊥)
    → length front ≡ length (front ++ back) → IsRule (front ++ back) → ⊥
at_end_from front back f e r = f back refl r.0 r.1

-- a front's cause is the reason at its length
why_from : (names : List (List ℕ)) (k : Reason) (front back : List Mark) → Stops names k front back → Cause names k front back
    → Why names (front ++ back) (length front) k
why_from names stuck front back s c =
    record { before = subst CanGoOn (sym (take_at front back (length front) refl)) s.before; at_mark = at_mark_from front back c; at_end = at_end_from front back c }
why_from names deep front back s c = subst (λ b. Why names (front ++ b) (length front) deep) (sym c.2) (
  omega (arith, length-append front (c.0 ∷ c.1)),
  subst (Opens 25) (sym (take_at front (c.0 ∷ c.1) (length front) refl)) c.4,
  subst CanGoOn (sym (take_next front c.0 c.1)) c.3,
)
why_from names unknown front back s c = subst (λ b. Why names (front ++ b) (length front) unknown) (sym c.2) (
  omega (arith, length-append front (name c.0 ∷ c.1)),
  (c.0, get_or_at front (name c.0) c.1 finish (length front) refl, c.4),
  subst CanGoOn (sym (take_next front (name c.0) c.1)) c.3,
  shallow_before unknown front (name c.0 ∷ c.1) s.shallow (suc (length front)) (omega arith) (omega arith),
)

-- what stops behind a front halts at its length
pub halts_from : {names : List (List ℕ)} {k : Reason} {front back : List Mark} → Stops names k front back → Halts names (front ++ back) (length front) k
halts_from {names} {k} {front} {back} s = record {
  bound = omega (arith, length-append front back);
  declared = λ j h l u. both_ways (has names u.0) u.2 (declared_at names front s.declared j h u.0
      (sym (get_or_append_left front back finish j h) ∙ u.1));
  shallow = shallow_before k front back s.shallow (length front) (omega arith) (omega arith);
  why = why_from names k front back s s.cause;
}

-- a failing descent stops
pub fails_stops : {names : List (List ℕ)} {k : Reason} {front back : List Mark} → Fails names 24 k front back → Stops names k front back
fails_stops {names} {k} {front} {back} f = record {
  before = can_shorter front ((goes_on f).mark ∷ []) (completes_can (goes_on f).goes);
  declared = declared_there f;
  shallow = λ post l pre o e. omega (arith, shallow_there f post l 25 pre o e);
  cause = go k f;
}
  where
    go : (k' : Reason) → Fails names 24 k' front back → Cause names k' front back
    go stuck g = λ tail e χ s. stuck_there g tail e s
    go deep g = let n = goes_on g in (n.mark, n.fit.0, n.fit.1, completes_can n.goes, deep_there g)
    go unknown g = let n = goes_on g in let u = unknown_there g in
        let a : back ≡ n.mark ∷ n.fit.0 = n.fit.1 in let b : back ≡ name u.0 ∷ u.1 = u.2 in let q : n.mark ≡ name u.0 = cc in
        (u.0, u.1, u.2, subst (λ m. CanGoOn (front ++ (m ∷ []))) q (completes_can n.goes), u.3)

-- more marks behind a whole rule stop it
pub trailing_stops : {names : List (List ℕ)} {φ : Formula ℕ} {front back : List Mark} → Good names 24 φ → Spells (named names φ) front [] → first_kind back < 11
    → Stops names stuck front back
trailing_stops {names} {φ} {front} {back} g s l = record {
  before = ([], (named names φ, extend s []));
  declared = good_declared names φ s g.below tt;
  shallow = λ post h pre o e. omega (arith, opens_depth o post (subst (λ x. Spells (named names φ) x []) e s), depth_named names φ, g.shallow);
  cause = λ tail e χ t. let q = ap first_kind (unique (extend s tail) t).1 in omega arith;
}
