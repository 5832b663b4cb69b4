-- What is printed of what came of a question.
use Rattle.std.specs.Prelude.{ℕ, List, ◌++◌, codes, Option, Some, Ok, Err, Result}
use Rattle.refusal.specs.declared.Refusal.{Refusal}
use Rattle.refusal.specs.Printed.{refusal_text}

-- what an answer prints, or the refusal
abbrev pub answer_output : {T : Type 0} → (T → Option (List ℕ)) → Result T Refusal → Option (List ℕ)
answer_output output (Ok x) = output x
answer_output output (Err e) = Some (refusal_text e)

-- what is printed of a rule: its written text behind the word for it, or the refusal
abbrev pub line_text : {T : Type 0} → (T → List ℕ) → Result T Refusal → List ℕ
line_text bytes (Ok text) = codes "rule " ++ bytes text
line_text bytes (Err e) = refusal_text e
