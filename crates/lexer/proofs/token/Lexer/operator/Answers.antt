use Rattle.std.proofs.Common.{length, ◌∙◌, rules}
use Rattle.grammar.specs.Descent.{lex}
use Rattle.lexer.specs.Tokens.{text_of, remaining}
use Rattle.lexer.proofs.Expecting.{operator_of, joint_taken}
use Rattle.lexer.proofs.token.Lexer.operator.Goals as goal

pub returns-clause-outcome : goal.returns-clause-outcome
returns-clause-outcome c =
    let next = lex (length (text_of c.args.self.now)) (remaining c.args.self.now) in
    c.expect.ensures.outcome operator_of (λ token got h. search rules) ∙ joint_taken next
