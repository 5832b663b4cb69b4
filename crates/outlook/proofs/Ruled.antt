-- What is known of every rule and its nodes. Assumes nothing.
use Rattle.std.proofs.Common.{◌≡◌, ℕ, zero, suc, ◌+◌, ◌^◌, ◌<◌, ◌≤◌, Bool, ◌||◌, List, [], ◌∷◌, ◌++◌, length, get_or, take, add-one, refl, sym, ap, ◌∙◌, ap₂, subst, arith, pow_mono, length-append}
use Rattle.std.specs.List.{list_any, zip}
use Rattle.std.proofs.lemmas.List.{take_all}
use Rattle.std.proofs.lemmas.List.Folds.{list_any_more}
use Rattle.std.proofs.lemmas.Slice.Zip.{length-zip, get_or-zip}
use Rattle.forecast.specs.Bounded.{some}
use Rattle.ltl.specs.declared.Node.{Node}
use Rattle.ltl.specs.declared.Node.TheVariants.{True}
use Rattle.ltl.specs.Words.{bit}
use Rattle.ltl.proofs.Meanings.{Tidy, sound_tidy}
use Rattle.few.proofs.Granted.{items_few}
use Rattle.names.proofs.Rows.{names_few}
use Rattle.rule.specs.declared.held.Rule.{Rule}
use Rattle.rule.specs.Rules.{nodes_in, names_in}
use Rattle.forecast.specs.Steady.{each_f, other_g, never_holds, never_fails, visiting}
use Rattle.outlook.specs.declared.deciding.Deciding.TheVariants.{Kept}
use Rattle.outlook.specs.Letters.{Told}
use Rattle.outlook.specs.Pairs.{letters_over, allowed_letters, unmet_by, visited_by}
use Rattle.outlook.proofs.Temporals.{unmet_right, visited_right}

-- the parts of each node have smaller numbers
pub tidy_nodes : (rule : Rule) → Tidy (nodes_in rule)
tidy_nodes rule = sound_tidy (length (names_in rule)) (nodes_in rule) rule.sound

-- at most six names, so at most 64 letters
pub few_names : (rule : Rule) → length (names_in rule) ≤ 6
few_names rule = names_few rule.names

pub few_letters : (rule : Rule) → 2 ^ length (names_in rule) ≤ 64
few_letters rule = let p : 2 ^ length (names_in rule) ≤ 2 ^ 6 = pow_mono (few_names rule) in p

pub few_nodes : (rule : Rule) → length (nodes_in rule) ≤ 32
few_nodes rule = items_few rule.nodes

-- a loop has yielded one item more
pub one_more : {X : Type 0} (P : ℕ → Type 0) (xs : List X) (x : X) → P (length xs + 1) → P (length (xs ++ x ∷ []))
one_more P xs x p = subst P (sym (length-append xs (x ∷ []))) p

-- x is node k, and w is its word
pub record AtNode (ns : List Node) (ws : List ℕ) (k : ℕ) (x : Node) (w : ℕ) : Type 0 where
  pub inside : k < length ns
  pub node : x ≡ get_or ns k True
  pub within : bit 0 w ≡ bit 0 (get_or ws k 0)

-- where a loop over the nodes with their words stands
pub at_node : (ns ks : List Node) (ws : List ℕ) (k : ℕ) (x : Node) (w : ℕ) → ks ≡ ns
    → (k < length ks) × (k < length ws) × ((d : Node) → x ≡ get_or ks k d) × ((d : ℕ) → w ≡ get_or ws k d) → AtNode ns ws k x w
at_node ns ks ws k x w same turn = record {
  inside = omega (arith, turn.0, ap length same);
  node = turn.2 True ∙ ap (λ xs. get_or xs k True) same;
  within = ap (bit 0) (turn.3 0);
}

-- a test of the first items is one of their indices
pub any_up_to : {X : Type 0} (test : X → Bool) (p : ℕ → Bool) (xs : List X) (d : X) (m : ℕ) → m ≤ length xs
    → ((k : ℕ) → k < m → test (get_or xs k d) ≡ p k) → list_any test (take m xs) ≡ some m p
unfolding some
any_up_to test p xs d zero l same = refl
any_up_to test p xs d (suc m) l same =
    ap (λ j. list_any test (take j xs)) (sym (add-one m)) ∙ list_any_more test xs m d (omega arith)
    ∙ ap₂ (λ x y. x || y) (any_up_to test p xs d m (omega arith) (λ k h. same k (omega arith))) (same m (omega arith))

module _ (rule : Rule) (I : ℕ) (ws : List ℕ) (told : Told Kept (nodes_in rule) I (length (nodes_in rule)) ws) where
  -- whether some node is unmet, from each node with its word
  pub unmet_any : (a : ℕ) → a ≡ allowed_letters (length (names_in rule)) (nodes_in rule) I → length (nodes_in rule) ≤ length ws
      → list_any (λ (p : Node × ℕ). unmet_by ws a (bit 0 p.1) p.0) (zip (nodes_in rule) ws)
      ≡ some (length (nodes_in rule)) (λ k. each_f (length (names_in rule)) (nodes_in rule) I (never_holds (length (names_in rule)) (nodes_in rule) I) k || other_g (length (names_in rule)) (nodes_in rule) I (never_fails (length (names_in rule)) (nodes_in rule) I) k)
  unmet_any a allowed room =
      let many : length (zip ns ws) ≡ length ns = omega (arith, length-zip ns ws) in
      ap (list_any test) (sym (take_all (length ns) (zip ns ws) (omega arith)))
      ∙ any_up_to test _ (zip ns ws) (True, 0) (length ns) (omega arith) here
    where
      ns : List Node
      ns = nodes_in rule

      test : Node × ℕ → Bool
      test p = unmet_by ws a (bit 0 p.1) p.0

      here : (k : ℕ) → k < length ns → test (get_or (zip ns ws) k (True, 0)) ≡ (each_f (length (names_in rule)) ns I (never_holds (length (names_in rule)) ns I) k || other_g (length (names_in rule)) ns I (never_fails (length (names_in rule)) ns I) k)
      here k l =
          ap test (get_or-zip ns ws k (True, 0) l (omega arith)) ∙ ap (λ w. unmet_by ws w (bit 0 (get_or ws k 0)) (get_or ns k True)) allowed
          ∙ unmet_right ns (tidy_nodes rule) I ws told k l (length (names_in rule)) (few_letters rule)

  -- whether node k gives a visit set
  pub visited_node : (k : ℕ) (b : Bool) (x : Node) (w : ℕ) → AtNode (nodes_in rule) ws k x w → b ≡ bit 0 w → (a : ℕ) (r : Bool) → a ≡ letters_over (length (names_in rule))
      → visited_by ws a b x ≡ r → visiting (length (names_in rule)) (nodes_in rule) I k ≡ r
  visited_node k b x w at inside a r all e =
      sym (visited_right (nodes_in rule) (tidy_nodes rule) I ws told k at.inside (length (names_in rule)) (few_letters rule))
      ∙ sym (ap (λ v. visited_by ws v b x) all ∙ ap₂ (visited_by ws _) (inside ∙ at.within) at.node) ∙ e
