-- What a pool holds.
use Rattle.std.specs.Prelude.{ℕ}
use Rattle.few.specs.Items.{items}
use Rattle.grammar.specs.Descent.{Held, Step}
use Rattle.rule.specs.declared.pool.Pool.{Pool}
use Rattle.lexer.specs.declared.token.Lexer.{Lexer}
use Rattle.lexer.specs.Tokens.{remaining}

abbrev pub held : Pool → Held
held p = record { nodes = items p.nodes; over = p.over }

-- where reading stands behind the subformula with number k
abbrev pub stepped : Pool → Lexer → ℕ → Step
stepped p l k = record { number = k; held = held p; rest = remaining l }
