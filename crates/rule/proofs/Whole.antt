-- What holds of the nodes that a text is read as. Assumes nothing.
use Rattle.std.proofs.Common.{◌≡◌, ℕ, ◌<◌, ◌≤◌, true, List, length, Ok, Result, sym, refl, ap, ◌∙◌, subst, arith}
use Rattle.refusal.specs.Answers.{Said}
use Rattle.ltl.specs.declared.Node.{Node}
use Rattle.ltl.specs.Arena.{all_sound, temporals, arena, root}
use Rattle.ltl.proofs.Numbering.{numbering}
use Rattle.ltl.proofs.Temporal.{temporal_count}
use Rattle.names.specs.Names.{proper}
use Rattle.grammar.specs.Descent.{reading}
use Rattle.grammar.specs.Writing.{written}
use Rattle.grammar.specs.Laws.{Reading}
use Rattle.rule.specs.Rules.{ByGrammar}
use Rattle.grammar.proofs.Single.{reading_law}
use Rattle.grammar.proofs.RoundTrip.{outcome_read, round_trip}

pub read_law : Reading
read_law = reading_law numbering temporal_count

-- what is known of a rule's nodes under its names
pub record Sound (names : List (List ℕ)) (ns : List Node) : Type 0 where
  pub few : length ns ≤ 32
  pub some : 0 < length ns
  pub sound : all_sound (length names) 0 ns ≡ true
  pub temporal : temporals ns ≤ 8
  pub numbered : arena (root ns) ≡ ns
  pub short : length (written names ns) ≤ 1024

module _ (names : List (List ℕ)) (fine : proper names ≡ true) (text : List ℕ) where
  pub read_sound : (ns : List Node) → reading names text ≡ Ok ns → Sound names ns
  read_sound ns e =
      let r = outcome_read ns ((read_law names fine text (Ok ns)).0 e) refl in
      let law = numbering r.formula in
      let is = r.is_text in
      subst (Sound names) r.nodes (record {
        few = omega (arith, law.count, r.few);
        some = law.some;
        sound = law.inner (length names) is.known;
        temporal = omega (arith, temporal_count r.formula, r.temporals);
        numbered = ap arena law.last;
        short = omega (arith, is.short, (round_trip read_law names fine text (arena r.formula) (e ∙ ap Ok (sym r.nodes))).no_longer);
      })

  -- what came of reading came under its condition
  pub by_grammar : (came : Result (List Node) Said) → came ≡ reading names text → ByGrammar names text came
  by_grammar came h o = (λ e. (read_law names fine text o).0 (sym h ∙ e), λ w. h ∙ (read_law names fine text o).1 w)
