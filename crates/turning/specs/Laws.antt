-- Laws of the turned machine, for every machine of at most 16 pairs.
use Rattle.std.specs.Prelude.{◌≡◌, ℕ, ◌<◌, ◌≤◌, ◌↔◌, List, Ok, Err, Result}
use Rattle.refusal.specs.declared.Layer.TheVariants.{Judge}
use Rattle.refusal.specs.Answers.{Said}
use Rattle.ltl.specs.Words.{Word}
use Rattle.machine.specs.Machines.{Machine, Limits}
use Rattle.machine.specs.Runs.{AcceptedBy}
use Rattle.machine.specs.Judging.{Judgement, accepted, rejected, Judged}
use Rattle.turning.specs.Turns.{turned}

-- a pair of the turned machine accepts a word exactly when the machine's pair of that number does
abbrev pub KeepsAcceptance : Type 0 → Type 0
KeepsAcceptance S = (m : Machine S) → m.pairs.count ≤ 16 → (w : Word) (p : ℕ) → AcceptedBy (turned m) w p ↔ AcceptedBy m w p

-- pair p accepts a word, and none before it does
abbrev pub FirstBy : {S : Type 0} → Machine S → Word → ℕ → Type 0
FirstBy m w p = AcceptedBy m w p × ((q : ℕ) → q < p → AcceptedBy m w q → ⊥)

-- both have the same first accepting pair
abbrev pub KeepsFirstPair : Type 0 → Type 0
KeepsFirstPair S = (m : Machine S) → m.pairs.count ≤ 16 → (w : Word) (p : ℕ) → FirstBy (turned m) w p ↔ FirstBy m w p

-- both say yes by the same pair, or both say no; the passes may differ
abbrev pub SameVerdict : Judgement → Judgement → Type 0
SameVerdict (accepted p k) (accepted q l) = p ≡ q
SameVerdict (accepted p k) (rejected l) = ⊥
SameVerdict (rejected k) (accepted q l) = ⊥
SameVerdict (rejected k) (rejected l) = Unit {0}

-- the trail is full
abbrev pub full_trail : Said
full_trail = record { number = 19; layer = Judge; place = 0 }

-- the same verdict or the same refusal, unless one trail is full and the other is not
abbrev pub Agrees : Result Judgement Said → Result Judgement Said → Type 0
Agrees (Ok j) (Ok i) = SameVerdict j i
Agrees (Ok j) (Err e) = e ≡ full_trail
Agrees (Err e) (Ok i) = e ≡ full_trail
Agrees (Err e) (Err f) = e ≡ f

-- what is judged of both, on trails of any lengths, agrees
abbrev pub KeepsVerdict : Type 0 → Type 0
KeepsVerdict S = (m : Machine S) → m.pairs.count ≤ 16 → (lead cycle : List ℕ) (places places' : ℕ) (o o' : Result Judgement Said) →
    Judged (turned m) lead cycle places o → Judged m lead cycle places' o' → Agrees o o'

-- each pair of the turned machine has one visit set
abbrev pub PlainPairs : Type 0 → Type 0
PlainPairs S = (m : Machine S) (p : ℕ) → p < m.pairs.count → (turned m).pairs.visits p ≡ 1

-- the turned machine keeps the limits that the machine keeps
abbrev pub KeepsLimits : Type 0 → Type 0
KeepsLimits S = (m : Machine S) → Limits m → Limits (turned m)
