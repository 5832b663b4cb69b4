-- Putting a node into a pool. Assumes nothing.
use Rattle.std.proofs.Common.{◌≡◌, ◌<◌, ◌≤◌, true, [], ◌∷◌, ◌++◌, length, ◌∙◌}
use Rattle.std.proofs.lemmas.Bool.{cond-true, cond-false, lt-ltb, le-ltb}
use Rattle.ltl.specs.declared.Node.{Node}
use Rattle.ltl.specs.Lists.{position}
use Rattle.ltl.specs.Arena.{same_node}
use Rattle.grammar.specs.Descent.{Held, put}

module _ (n : Node) (h : Held) where
  pub put_known : position same_node n h.nodes < length h.nodes → put n h ≡ (h, position same_node n h.nodes)
  put_known known = cond-true _ _ _ (lt-ltb _ _ known)

  -- a new node
  module _ (new : length h.nodes ≤ position same_node n h.nodes) where
    pub put_over : 32 ≤ length h.nodes → put n h ≡ (record { nodes = h.nodes; over = true }, 0)
    put_over full = cond-false _ _ _ (le-ltb _ _ new) ∙ cond-false _ _ _ (le-ltb _ _ full)

    pub put_new : length h.nodes < 32 → put n h ≡ (record { nodes = h.nodes ++ (n ∷ []); over = h.over }, position same_node n h.nodes)
    put_new room = cond-false _ _ _ (le-ltb _ _ new) ∙ cond-true _ _ _ (lt-ltb _ _ room)
