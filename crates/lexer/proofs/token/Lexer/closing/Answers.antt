use Rattle.std.proofs.Common.{length, rules}
use Rattle.grammar.specs.Marks.Mark.{closing}
use Rattle.grammar.specs.Descent.{lex}
use Rattle.lexer.specs.Tokens.{text_of, remaining}
use Rattle.lexer.proofs.Expecting.{of_kind, due_taken}
use Rattle.lexer.proofs.token.Lexer.closing.Goals as goal

pub returns-clause-outcome : goal.returns-clause-outcome
returns-clause-outcome c =
    let next = lex (length (text_of c.args.self.now)) (remaining c.args.self.now) in
    due_taken closing next _ c.expect.result (c.expect.ensures.outcome (of_kind closing) (λ token got h. search rules))
