-- The pairs of a rule say what the rule says.
use Rattle.std.specs.Prelude.{◌≡◌, ℕ, ◌<◌, ◌≤◌, true, ◌&&◌, ◌||◌, List, length, Ok, slice_index_or}
use Rattle.ltl.specs.declared.Node.{Node}
use Rattle.ltl.specs.declared.Node.TheVariants.{True, Eventually, Always}
use Rattle.ltl.specs.Words.{bit, Satisfies}
use Rattle.ltl.specs.Rounds.{spelling}
use Rattle.ltl.specs.Arena.{all_sound, root, temporals}
use Rattle.round.specs.Letters.{sound}
use Rattle.machine.specs.Machines.{Limits}
use Rattle.machine.specs.Runs.{AcceptedBy}
use Rattle.forecast.specs.Forecasts.{rank, holds_at, recast}
use Rattle.forecast.specs.Rules.{States, machine_of}

-- the nodes of a rule over n names
pub record Ruled (n : ℕ) (ns : List Node) : Type 0 where
  pub few_names : n ≤ 6
  pub some : 0 < length ns
  pub few_temporal : temporals ns ≤ 8
  pub ordered : all_sound n 0 ns ≡ true

-- for every rule and every round, the run of the rule's machine is accepted by some pair exactly when the round's word satisfies the rule
abbrev pub SaysTheRule : Type 0 → Type 0
SaysTheRule S =
    (states : States S) (n : ℕ) (ns : List Node) → Ruled n ns → (lead cycle : List ℕ) → sound n lead cycle ≡ Ok tt
    → ((p : ℕ) × AcceptedBy (machine_of states n ns) (spelling lead cycle) p → Satisfies (spelling lead cycle) (root ns)) × (Satisfies (spelling lead cycle) (root ns) → (p : ℕ) × AcceptedBy (machine_of states n ns) (spelling lead cycle) p)

-- and the machine keeps the limits of every acceptor
abbrev pub KeepsLimits : Type 0 → Type 0
KeepsLimits S = (states : States S) (n : ℕ) (ns : List Node) → Ruled n ns → Limits (machine_of states n ns)

-- the recast K of J by a is decided by itself: F q is in K where q holds at (a, K) or F q is in J, G q where q holds at (a, K) and G q is in J
abbrev pub Recasting : Type 0
Recasting =
    (n : ℕ) (ns : List Node) → Ruled n ns → (a J k q : ℕ) → k < length ns
    → (slice_index_or ns k True ≡ Eventually q → bit (rank ns k) (recast ns a J) ≡ (holds_at ns a (recast ns a J) q || bit (rank ns k) J)) × (slice_index_or ns k True ≡ Always q → bit (rank ns k) (recast ns a J) ≡ (holds_at ns a (recast ns a J) q && bit (rank ns k) J))
