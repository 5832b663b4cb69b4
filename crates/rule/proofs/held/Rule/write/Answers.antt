use Rattle.std.proofs.Common.{◌≡◌, ◌-◌, length, Ok, sym, ap, ◌∙◌, arith}
use Rattle.grammar.proofs.RoundTrip.{round_trip}
use Rattle.refusal.proofs.Exits.{told}
use Rattle.rule.specs.Rules.{nodes_in, names_in}
use Rattle.rule.specs.Written.{part_in, word_in}
use Rattle.rule.proofs.Whole.{read_law}
use Rattle.rule.proofs.Parts.{too_short, long_enough}
use Rattle.rule.proofs.Pasting.{wrote_as, pasted_front}
use Rattle.rule.proofs.held.Rule.write.Goals as goal

pub returns-then-out-width : goal.returns-then-out-width
returns-then-out-width c =
    let r = c.args.self.now in
    let last : part_in r (c.count.result - 1) ≡ word_in r = ap (λ n. part_in r (n - 1)) c.count.ensures.value in
    let s = too_short r c.args.out.now (omega (arith, ap length last)) in
    record { outcome = told c.new.ensures ∙ sym s.0; after = sym s.1; trip = λ text e. round_trip read_law (names_in r) r.names.sound text (nodes_in r) e }

pub returns : goal.returns
returns c =
    let r = c.args.self.now in
    let last : part_in r (c.count.result - 1) ≡ word_in r = ap (λ n. part_in r (n - 1)) c.count.ensures.value in
    let s = long_enough r c.args.out.now (omega (arith, ap length last)) in
    let w = wrote_as last c.write_part.ensures in
    record {
      outcome = ap Ok (w.end ∙ omega arith) ∙ sym s.0;
      after = w.after ∙ pasted_front (word_in r) c.args.out.now ∙ sym s.1;
      trip = λ text e. round_trip read_law (names_in r) r.names.sound text (nodes_in r) e;
    }
