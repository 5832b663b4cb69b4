use Rattle.std.proofs.Common.{◌+◌, length, drop, ap, ◌∙◌}
use Rattle.std.specs.List.{prefix_len}
use Rattle.std.proofs.lemmas.List.{take_rest}
use Rattle.names.specs.Names.{wordly}
use Rattle.refusal.specs.Answers.{and_then}
use Rattle.refusal.proofs.Exits.{handed_on}
use Rattle.grammar.specs.Marks.{marks_from}
use Rattle.lexer.specs.Tokens.{text_of, lexed}
use Rattle.lexer.proofs.Lexing.{as_lexed, lex_end, lex_mark, lex_word}
use Rattle.lexer.proofs.token.Lexer.next.Goals as goal

pub returns-in_default-clause-outcome : goal.returns-in_default-clause-outcome
returns-in_default-clause-outcome c =
    let t = text_of c.args.self.now in
    lex_end t c.args.self.now.at c.skip_blanks-place.result (length t) c.skip_blanks-place.ensures c.in_default.ensures.lookup.3

pub returns-then-is_lower-clause-outcome : goal.returns-then-is_lower-clause-outcome
returns-then-is_lower-clause-outcome c =
    let t = text_of c.args.self.now in
    let place = c.skip_blanks-place.result in
    let first = c.in-Some.ensures.lookup.3 in
    ap (as_lexed place (marks_from (place + c.run_length.result) 0 (drop (place + c.run_length.result) t))) c.word.ensures
    ∙ lex_word t c.args.self.now.at place (length t) c.skip_blanks-place.ensures c.in-Some.first.now first.0 (first.1 0) c.if-is_lower.ensures c.run_length.result (c.run_length.ensures.value ∙ ap (prefix_len wordly) (take_rest t place))

pub returns-in_err-token-clause-outcome : goal.returns-in_err-token-clause-outcome
returns-in_err-token-clause-outcome c =
    let t = text_of c.args.self.now in
    let place = c.skip_blanks-place.result in
    let first = c.in-Some.ensures.lookup.3 in
    let rest = marks_from (place + 1) 0 (drop (place + 1) t) in
    handed_on c.in_err-token.field-0.0 (lexed (record { text = c.args.self.now.text; at = place + 1 })) c.from_residual.result c.from_residual.ensures.1
    ∙ ap (λ r. and_then r (as_lexed place rest)) c.in_err-token.ensures
    ∙ lex_mark t c.args.self.now.at place (length t) c.skip_blanks-place.ensures c.in-Some.first.now first.0 (first.1 0) c.if-is_lower.ensures

pub returns-clause-outcome : goal.returns-clause-outcome
returns-clause-outcome c =
    let t = text_of c.args.self.now in
    let place = c.skip_blanks-place.result in
    let first = c.in-Some.ensures.lookup.3 in
    let rest = marks_from (place + 1) 0 (drop (place + 1) t) in
    ap (λ r. and_then r (as_lexed place rest)) c.in_ok-token.ensures
    ∙ lex_mark t c.args.self.now.at place (length t) c.skip_blanks-place.ensures c.in-Some.first.now first.0 (first.1 0) c.if-is_lower.ensures
