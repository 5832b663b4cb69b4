use Rattle.std.proofs.Common.{sym, refl, ◌∙◌}
use Rattle.std.proofs.lemmas.Result.{IfOk-from_err}
use Rattle.refusal.proofs.Exits.{handed_on}
use Rattle.ltl.proofs.Numbering.{numbering}
use Rattle.names.specs.Listed.{spelled_names}
use Rattle.rule.specs.Pools.{held}
use Rattle.rule.specs.Rules.{nodes_in, Enumerates}
use Rattle.rule.proofs.Whole.{read_sound, by_grammar}
use Rattle.rule.proofs.held.Rule.read.Goals as goal

pub returns-in_err-pool : goal.returns-in_err-pool
returns-in_err-pool c =
    let names = c.args.names.now in
    let came = handed_on c.in_err-pool.field-0.0 nodes_in c.from_residual.result c.from_residual.ensures.1 ∙ c.in_err-pool.ensures in
    record {
      outcome = came;
      names = IfOk-from_err c.from_residual.result _ c.from_residual.ensures.0;
      grammar = by_grammar (spelled_names names) names.sound c.args.text.now _ came;
      numbering = IfOk-from_err c.from_residual.result Enumerates c.from_residual.ensures.0;
    }

pub invariant_of-result : goal.invariant_of-result
invariant_of-result c =
    let names = c.args.names.now in
    let pool = c.in_ok-pool.pool in
    let s = read_sound (spelled_names names) names.sound c.args.text.now (held pool).nodes (sym c.in_ok-pool.ensures) in
    record { some = s.some; sound = s.sound; temporal = s.temporal; numbered = s.numbered; short = s.short }

pub returns : goal.returns
returns c =
    let names = c.args.names.now in
    let pool = c.in_ok-pool.pool in
    let s = read_sound (spelled_names names) names.sound c.args.text.now (held pool).nodes (sym c.in_ok-pool.ensures) in
    record {
      outcome = c.in_ok-pool.ensures;
      names = refl;
      grammar = by_grammar (spelled_names names) names.sound c.args.text.now _ c.in_ok-pool.ensures;
      numbering = record { nodes = sym s.numbered; numbers = numbering _ };
    }
