-- A recast says of itself what is decided anew: F q is in it where q holds at it or F q was forecast, G q where q holds at it and G q was forecast.
-- Assumes nothing.
use Rattle.std.proofs.Common.{◌≡◌, ℕ, ◌<◌, Bool, true, false, ◌&&◌, ◌||◌, List, length, get_or, sym, refl, ap, ◌∙◌}
use Rattle.ltl.specs.declared.Node.{Node}
use Rattle.ltl.specs.declared.Node.TheVariants.{True, False, Atom, NotAtom, And, Or, Eventually, Always}
use Rattle.ltl.specs.Words.{bit}
use Rattle.ltl.specs.Arena.{temporal}
use Rattle.ltl.proofs.Meanings.{sound_tidy, Tidy}
use Rattle.forecast.specs.Forecasts.{rank, kept, renewed, value_of, values, holds_at, recast}
use Rattle.forecast.proofs.Bits.{gather_bit}
use Rattle.forecast.proofs.Values.{length_values, value_at, value_unique}
use Rattle.forecast.specs.Laws.{Recasting}

module _ (ns : List Node) (tidy : Tidy ns) (a J : ℕ) where
  -- what holds at the recast is what is decided anew
  pub recast_values : values kept ns a (recast ns a J) ≡ values renewed ns a J
  recast_values = value_unique kept ns tidy a (recast ns a J) V (length_values renewed ns tidy a J) (λ k l. node k l (get_or ns k True) refl)
    where
      V : List Bool
      V = values renewed ns a J

      told : (k : ℕ) (x : Node) → k < length ns → get_or ns k True ≡ x → get_or V k false ≡ value_of renewed a J V (rank ns k) x
      told k x l e = value_at renewed ns tidy a J k l ∙ ap (value_of renewed a J V (rank ns k)) e

      node : (k : ℕ) → k < length ns → (x : Node) → get_or ns k True ≡ x → get_or V k false ≡ value_of kept a (recast ns a J) V (rank ns k) x
      node k l True e = told k True l e
      node k l False e = told k False l e
      node k l (Atom b) e = told k (Atom b) l e
      node k l (NotAtom b) e = told k (NotAtom b) l e
      node k l (And i j) e = told k (And i j) l e
      node k l (Or i j) e = told k (Or i j) l e
      node k l (Eventually i) e = sym (gather_bit ns V k (length_values renewed ns tidy a J) l (ap temporal e))
      node k l (Always i) e = sym (gather_bit ns V k (length_values renewed ns tidy a J) l (ap temporal e))

  -- a temporal node is in the recast where it is decided anew
  recast_bit : (k : ℕ) (x : Node) → k < length ns → get_or ns k True ≡ x → temporal x ≡ true
      → bit (rank ns k) (recast ns a J) ≡ value_of renewed a J (values kept ns a (recast ns a J)) (rank ns k) x
  recast_bit k x l e t =
      gather_bit ns (values renewed ns a J) k (length_values renewed ns tidy a J) l (ap temporal e ∙ t)
      ∙ value_at renewed ns tidy a J k l ∙ ap (value_of renewed a J (values renewed ns a J) (rank ns k)) e
      ∙ ap (λ vs. value_of renewed a J vs (rank ns k) x) (sym recast_values)

  -- F q is in the recast K where q holds at (a, K) or F q is in J
  pub recast_f : (k q : ℕ) → k < length ns → get_or ns k True ≡ Eventually q
      → bit (rank ns k) (recast ns a J) ≡ (holds_at ns a (recast ns a J) q || bit (rank ns k) J)
  recast_f k q l e = recast_bit k (Eventually q) l e refl

  -- G q is in the recast K where q holds at (a, K) and G q is in J
  pub recast_g : (k q : ℕ) → k < length ns → get_or ns k True ≡ Always q
      → bit (rank ns k) (recast ns a J) ≡ (holds_at ns a (recast ns a J) q && bit (rank ns k) J)
  recast_g k q l e = recast_bit k (Always q) l e refl

pub recasting : Recasting
recasting n ns r a J k q l = let tidy = sound_tidy n ns r.ordered in (recast_f ns tidy a J k q l, recast_g ns tidy a J k q l)
