-- Tokens as the marks that they are.
use Rattle.std.specs.Prelude.{ℕ, cond, List, [], drop, Ok, Result, Option, Some, None}
use Rattle.refusal.specs.Answers.{Said}
use Rattle.grammar.specs.Marks.{Mark, Placed, mark_of, is_kind, marks_from}
use Rattle.grammar.specs.Marks.Mark.{verum, falsum, name, negation, finally, globally, opening, conjunction, disjunction, closing, foreign, finish}
use Rattle.grammar.specs.Descent.{Lexed, unexpected}
use Rattle.lexer.specs.declared.token.Token.{Token}
use Rattle.lexer.specs.declared.token.Token.TheVariants.{True, False, Name, Not, Eventually, Always, Open, And, Or, Close, End}
use Rattle.lexer.specs.declared.token.Lexeme.{Lexeme}
use Rattle.lexer.specs.declared.token.Lexer.{Lexer}

abbrev pub mark_in : Token → Mark
mark_in True = verum
mark_in False = falsum
mark_in (Name w) = name w.now
mark_in Not = negation
mark_in Eventually = finally
mark_in Always = globally
mark_in Open = opening
mark_in And = conjunction
mark_in Or = disjunction
mark_in Close = closing
mark_in End = finish

abbrev pub text_of : Lexer → List ℕ
text_of l = l.text.now

-- the marks that are still to be read
abbrev pub remaining : Lexer → List Placed
remaining l = marks_from l.at 0 (drop l.at (text_of l))

abbrev pub lexed : Lexer → Lexeme → Lexed
lexed l x = record { mark = mark_in x.token; place = x.place; rest = remaining l }

-- a mark by itself
abbrev pub alone : Lexeme → Lexed
alone x = record { mark = mark_in x.token; place = x.place; rest = [] }

-- a byte that is neither blank nor letter, as a mark at its place
abbrev pub mark_at : ℕ → ℕ → Result Mark Said
mark_at b p = cond (is_kind foreign (mark_of b)) (unexpected p) (Ok (mark_of b))

-- what a mark gives with the marks behind it, or that it is unexpected
abbrev pub given_or : {T : Type 0} → Option T → ℕ → List Placed → Result (T × List Placed) Said
given_or None p ms = unexpected p
given_or (Some x) p ms = Ok (x, ms)

abbrev pub taken_by : {T : Type 0} → (Mark → Option T) → Lexed → Result (T × List Placed) Said
taken_by test x = given_or (test x.mark) x.place x.rest
