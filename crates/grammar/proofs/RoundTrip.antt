-- What was read and is written reads as itself. Assumes what reading comes to.
use Rattle.std.proofs.Common.{◌≡◌, ℕ, ◌≤◌, true, List, [], length, Ok, count_by, Result, sym, refl, ap, ◌∙◌, subst, arith}
use Rattle.refusal.specs.Answers.{Said}
use Rattle.ltl.specs.declared.Node.{Node}
use Rattle.ltl.specs.Formula.{Formula, is_temporal}
use Rattle.ltl.specs.Arena.{arena, root}
use Rattle.ltl.specs.Laws.{subformulae}
use Rattle.ltl.proofs.Numbering.{numbering}
use Rattle.names.specs.Names.{proper}
use Rattle.grammar.specs.Descent.{reading}
use Rattle.grammar.specs.Writing.{named, written_on}
use Rattle.grammar.specs.Laws.{IsText, Outcome, Reading, RoundTrip}
use Rattle.grammar.specs.Laws.Outcome.{too_long, unexpected, too_deep, undeclared, too_many, too_temporal, read}
use Rattle.grammar.proofs.Words.{named_worded}
use Rattle.grammar.proofs.Written.{written_spells}
use Rattle.grammar.proofs.Blanks.{Unblank, written_unblank}
use Rattle.grammar.proofs.Widths.{written_short}

-- the text spells φ, which is small enough and has the nodes ns
pub record Readable (names : List (List ℕ)) (text : List ℕ) (ns : List Node) : Type 0 where
  pub formula : Formula ℕ
  pub is_text : IsText names text formula
  pub few : length (subformulae formula) ≤ 32
  pub temporals : count_by is_temporal (subformulae formula) ≤ 8
  pub nodes : arena formula ≡ ns

-- an outcome that is no refusal is that of a text that spells a small formula
pub outcome_read : {names : List (List ℕ)} {text : List ℕ} {o : Result (List Node) Said} (ns : List Node)
    → Outcome names text o → o ≡ Ok ns → Readable names text ns
outcome_read ns (too_long _) e = let z : ◌≡◌ {A = ℕ} 0 1 = cc in let f : ⊥ = omega arith in absurd f
outcome_read ns (unexpected _ _ _ _ _ _) e = let z : ◌≡◌ {A = ℕ} 0 1 = cc in let f : ⊥ = omega arith in absurd f
outcome_read ns (too_deep _ _ _ _ _ _ _) e = let z : ◌≡◌ {A = ℕ} 0 1 = cc in let f : ⊥ = omega arith in absurd f
outcome_read ns (undeclared _ _ _ _ _ _ _) e = let z : ◌≡◌ {A = ℕ} 0 1 = cc in let f : ⊥ = omega arith in absurd f
outcome_read ns (too_many _ _ _) e = let z : ◌≡◌ {A = ℕ} 0 1 = cc in let f : ⊥ = omega arith in absurd f
outcome_read ns (too_temporal _ _ _ _) e = let z : ◌≡◌ {A = ℕ} 0 1 = cc in let f : ⊥ = omega arith in absurd f
outcome_read ns (read φ t few temporals) e = record { formula = φ; is_text = t; few = few; temporals = temporals; nodes = cc }

-- what a formula is written as: it reads as the nodes, has no blank, and is no longer than the text
pub record Kept (names : List (List ℕ)) (text : List ℕ) (ns : List Node) (φ : Formula ℕ) : Type 0 where
  pub again : reading names (written_on (named names φ) []) ≡ Ok ns
  pub unblank : Unblank (written_on (named names φ) [])
  pub short : length (written_on (named names φ) []) ≤ length text

-- a formula that a text spells is written as a text that spells it
pub written_kept : Reading → (names : List (List ℕ)) → proper names ≡ true → (text : List ℕ) (ns : List Node)
    → (r : Readable names text ns) → Kept names text ns r.formula
written_kept law names h text ns r =
    let φ = r.formula in
    let t = r.is_text in
    let w = named_worded names φ h t.known in
    let s = written_short (named names φ) text t.spelled in
    let l : length (written_on (named names φ) []) ≤ 1024 = (let k = t.short in omega arith) in
    let i : IsText names (written_on (named names φ) []) φ
    = record { short = l; spelled = (written_spells (named names φ) 0 [] w refl).1; known = t.known; shallow = t.shallow } in
    record {
      again = (law names h (written_on (named names φ) []) (Ok (arena φ))).1 (read φ i r.few r.temporals) ∙ ap Ok r.nodes;
      unblank = written_unblank (named names φ) [] w (λ k below _. let z : ⊥ = omega arith in z);
      short = s;
    }

-- what was read and is written reads as itself, has no blank and is no longer
pub round_trip : Reading → RoundTrip
round_trip law names h text ns e =
    let r = outcome_read ns ((law names h text (Ok ns)).0 e) refl in
    let last : r.formula ≡ root ns = sym (numbering r.formula).last ∙ ap root r.nodes in
    let k = subst (Kept names text ns) last (written_kept law names h text ns r) in
    record { again = k.again; no_blank = k.unblank; no_longer = k.short }
