-- Whether some word has a bit, and whether all have it, by their places. Assumes nothing.
use Rattle.std.proofs.Common.{◌≡◌, ℕ, ◌<◌, Bool, true, List, length, get_or, sym, ap, ◌∙◌, subst, Decides}
use Rattle.ltl.specs.declared.Node.{Node}
use Rattle.ltl.specs.declared.Node.TheVariants.{Eventually, Always}
use Rattle.ltl.specs.Words.{bit}
use Rattle.evaluate.specs.Marks.{Settled}
use Rattle.std.specs.List.{list_any, list_all}
use Rattle.std.proofs.lemmas.List.Folds.{Any-from_list_any, list_any_at}
use Rattle.std.proofs.lemmas.List.Sums.{AllPass-from_list_all, list_all-from_AllPass}
use Rattle.std.proofs.lemmas.List.{get_or_read}
use Rattle.std.proofs.lemmas.List.Elements.{All-get_or, All-from_get_or}

pub any_placed : (p : ℕ → Bool) (words : List ℕ) → Decides (list_any p words) ((j : ℕ) × (j < length words) × (p (get_or words j 0) ≡ true))
any_placed p words = (
  λ e. let a = Any-from_list_any p words e in (a.0, a.2, ap p (sym (get_or_read words a.0 a.1 a.2 (sym a.3) 0)) ∙ a.4),
  λ x. list_any_at p words x.0 0 x.1 x.2,
)

pub all_placed : (p : ℕ → Bool) (words : List ℕ) → Decides (list_all p words) ((j : ℕ) → j < length words → p (get_or words j 0) ≡ true)
all_placed p words = (
  λ e j l. All-get_or (λ x. p x ≡ true) words j 0 l (AllPass-from_list_all p words e),
  λ f. list_all-from_AllPass p words (All-from_get_or (λ x. p x ≡ true) words 0 f),
)

-- so one look tells of an F, and of a G
module _ (words : List ℕ) {node : Node} {b : Bool} {i part : ℕ} where
  pub eventual_settled : node ≡ Eventually part → i ≡ part → b ≡ list_any (bit i) words → Settled node words b
  eventual_settled is from e =
      subst (λ n. Settled n words b) (sym is)
      (subst (λ c. Settled (Eventually part) words c) (sym (e ∙ ap (λ k. list_any (bit k) words) from)) (any_placed (bit part) words))

  pub lasting_settled : node ≡ Always part → i ≡ part → b ≡ list_all (bit i) words → Settled node words b
  lasting_settled is from e =
      subst (λ n. Settled n words b) (sym is)
      (subst (λ c. Settled (Always part) words c) (sym (e ∙ ap (λ k. list_all (bit k) words) from)) (all_placed (bit part) words))
