-- The numbers and layers' names of the refusals, and an answer as promises speak of it.
use Rattle.std.specs.Prelude.{ℕ, List, Ok, Err, codes, Result}
use Rattle.refusal.specs.declared.Cause.{Cause}
use Rattle.refusal.specs.declared.Cause.TheVariants.{MalformedName, RepeatedName, ExcessName, LongText, UnexpectedMark, UndeclaredName, DeepRule, ManySubformulae, ManyTemporal, EmptyCycle, LongRound, ForeignBit, ManyPairs, FullTable, ShortTable, OtherTables, StateWaits, NothingWaits, FullTrail, ShortOutput, BadField}
use Rattle.refusal.specs.declared.Layer.{Layer}
use Rattle.refusal.specs.declared.Layer.TheVariants.{Names, Rule, Round, Turn, Build, Judge, Saved, Sheet}
use Rattle.refusal.specs.declared.Refusal.{Refusal}

abbrev pub number : Cause → ℕ
number MalformedName = 1
number RepeatedName = 2
number ExcessName = 3
number LongText = 4
number UnexpectedMark = 5
number UndeclaredName = 6
number DeepRule = 7
number ManySubformulae = 8
number ManyTemporal = 9
number EmptyCycle = 10
number LongRound = 11
number ForeignBit = 12
number ManyPairs = 13
number FullTable = 14
number ShortTable = 15
number OtherTables = 16
number StateWaits = 17
number NothingWaits = 18
number FullTrail = 19
number ShortOutput = 20
number BadField = 21

abbrev pub layer_name : Layer → List ℕ
layer_name Names = codes "names"
layer_name Rule = codes "rule"
layer_name Round = codes "round"
layer_name Turn = codes "turn"
layer_name Build = codes "build"
layer_name Judge = codes "judge"
layer_name Saved = codes "saved"
layer_name Sheet = codes "sheet"

-- a refusal as it is told: its number, the layer that found it, a place
pub record Said : Type 0 where
  pub number : ℕ
  pub layer : Layer
  pub place : ℕ

abbrev pub said : Refusal → Said
said e = record { number = number e.cause; layer = e.layer; place = e.place }

-- an answer, by what is seen of a granted value and what is said of a refusal
abbrev pub answer : {A B : Type 0} → (A → B) → Result A Refusal → Result B Said
answer seen (Ok a) = Ok (seen a)
answer seen (Err e) = Err (said e)

abbrev pub refused : {A : Type 0} → ℕ → Layer → ℕ → Result A Said
refused n l p = Err (record { number = n; layer = l; place = p })

-- the answer of two steps, the second taken where the first was granted
abbrev pub and_then : {A B : Type 0} → Result A Said → (A → Result B Said) → Result B Said
and_then (Ok a) next = next a
and_then (Err e) next = Err e
