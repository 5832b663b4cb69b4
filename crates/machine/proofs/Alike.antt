-- Machines whose runs correspond are judged alike. Assumes nothing.
use Rattle.std.proofs.Common.{◌≡◌, ℕ, zero, suc, ◌+◌, ◌*◌, ◌<◌, List, length, Result, sym, ap, ◌∙◌, subst}
use Rattle.refusal.specs.Answers.{Said}
use Rattle.ltl.specs.Words.{Word}
use Rattle.ltl.specs.Rounds.{spelling}
use Rattle.round.specs.Letters.{sound}
use Rattle.machine.specs.Machines.{Course, Machine}
use Rattle.machine.specs.Runs.{run, Reached, AcceptedBy}
use Rattle.machine.specs.Runs.Reached.{at_start, by_letter}
use Rattle.machine.specs.Judging.{Judgement, Recurs, Passes, Judged}
use Rattle.machine.specs.Judging.Judged.{unsound, full, yes_by, no_pair}
use Rattle.machine.specs.Laws.{Corresponds, JudgedAlike}

-- the state after any letters is reached
pub run_reached : {S : Type 0} (c : Course S) (w : Word) (i : ℕ) → Reached c (run c w i)
run_reached c w zero = at_start
run_reached c w (suc i) = by_letter (run_reached c w i) (w i)

-- the runs of two machines on a word are in the same sets at each position, and meet old states at the same positions
pub record Alike {S T : Type 0} (m : Machine S) (n : Machine T) (w : Word) : Type 0 where
  pub names : m.course.names ≡ n.course.names
  pub count : m.pairs.count ≡ n.pairs.count
  pub visits : (p : ℕ) → m.pairs.visits p ≡ n.pairs.visits p
  pub avoids : (p i : ℕ) → m.pairs.avoids p (run m.course w i) ≡ n.pairs.avoids p (run n.course w i)
  pub visited : (p q i : ℕ) → m.pairs.visited p q (run m.course w i) ≡ n.pairs.visited p q (run n.course w i)
  pub joins : (i j : ℕ) → run m.course w i ≡ run m.course w j → run n.course w i ≡ run n.course w j
  pub parts : (i j : ℕ) → run n.course w i ≡ run n.course w j → run m.course w i ≡ run m.course w j

-- being alike goes both ways
pub flip : {S T : Type 0} (m : Machine S) (n : Machine T) (w : Word) → Alike m n w → Alike n m w
flip m n w a = record {
  names = sym a.names;
  count = sym a.count;
  visits = λ p. sym (a.visits p);
  avoids = λ p i. sym (a.avoids p i);
  visited = λ p q i. sym (a.visited p q i);
  joins = a.parts;
  parts = a.joins;
}

-- the pairs that accept the one run accept the other
pub alike_accepted : {S T : Type 0} (m : Machine S) (n : Machine T) (w : Word) → Alike m n w → (p : ℕ) → AcceptedBy m w p → AcceptedBy n w p
alike_accepted m n w a p b = record {
  pair = subst (λ c. p < c) a.count b.pair;
  avoids = (b.avoids.0, λ i h. sym (a.avoids p i) ∙ b.avoids.1 i h);
  visits = λ q h x. let v = b.visits q (subst (λ c. q < c) (sym (a.visits p)) h) x in (v.0, v.1, sym (a.visited p q v.0) ∙ v.2);
}

module _ {S T : Type 0} (m : Machine S) (n : Machine T) (lead cycle : List ℕ) (a : Alike m n (spelling lead cycle)) where
  -- a state at a cycle's end is an old one in both runs
  pub alike_recurs : (k : ℕ) → Recurs m lead cycle k → Recurs n lead cycle k
  alike_recurs k r = (r.0, r.1, a.joins (length lead + r.0 * length cycle) (length lead + k * length cycle) r.2)

-- the runs take the same number of passes
pub alike_passes : {S T : Type 0} (m : Machine S) (n : Machine T) (lead cycle : List ℕ) →
    Alike m n (spelling lead cycle) → (k : ℕ) → Passes m lead cycle k → Passes n lead cycle k
alike_passes m n lead cycle a k p = record {
  recurs = alike_recurs m n lead cycle a k p.recurs;
  least = λ j h r. p.least j h (alike_recurs n m lead cycle (flip m n _ a) j r);
}

-- what is judged of the one is judged of the other
pub alike_judged : {S T : Type 0} (m : Machine S) (n : Machine T) (lead cycle : List ℕ) →
    Alike m n (spelling lead cycle) → (places : ℕ) (o : Result Judgement Said) → Judged m lead cycle places o → Judged n lead cycle places o
alike_judged m n lead cycle a places o (unsound e s) = unsound e (ap (λ x. sound x lead cycle) (sym a.names) ∙ s)
alike_judged m n lead cycle a places o (full s f) =
    full (ap (λ x. sound x lead cycle) (sym a.names) ∙ s) (λ k l p. f k l (alike_passes n m lead cycle (flip m n _ a) k p))
alike_judged m n lead cycle a places o (yes_by p k s t l b f) =
    yes_by p k (ap (λ x. sound x lead cycle) (sym a.names) ∙ s) (alike_passes m n lead cycle a k t) l
    (alike_accepted m n _ a p b) (λ q h c. f q h (alike_accepted n m _ (flip m n _ a) q c))
alike_judged m n lead cycle a places o (no_pair k s t l f) =
    no_pair k (ap (λ x. sound x lead cycle) (sym a.names) ∙ s) (alike_passes m n lead cycle a k t) l
    (λ q c. f q (alike_accepted n m _ (flip m n _ a) q c))

module _ {S T : Type 0} (m : Machine S) (n : Machine T) (f : S → T) (c : Corresponds m n f) (w : Word) where
  -- the map takes the one run to the other
  pub corresponding_run : (i : ℕ) → f (run m.course w i) ≡ run n.course w i
  corresponding_run zero = c.start
  corresponding_run (suc i) = c.next _ (w i) (run_reached m.course w i) ∙ ap (λ s. n.course.next s (w i)) (corresponding_run i)

  -- runs that correspond are alike
  pub corresponding_alike : Alike m n w
  corresponding_alike = record {
    names = c.names;
    count = c.count;
    visits = c.visits;
    avoids = λ p i. c.avoids p _ (run_reached m.course w i) ∙ ap (n.pairs.avoids p) (corresponding_run i);
    visited = λ p q i. c.visited p q _ (run_reached m.course w i) ∙ ap (n.pairs.visited p q) (corresponding_run i);
    joins = λ i j e. sym (corresponding_run i) ∙ ap f e ∙ corresponding_run j;
    parts = λ i j e. c.apart _ _ (run_reached m.course w i) (run_reached m.course w j) (corresponding_run i ∙ e ∙ sym (corresponding_run j));
  }

-- machines whose runs correspond are judged alike
pub judged_alike : {S T : Type 0} → JudgedAlike S T
judged_alike m n f c lead cycle places o =
    let a = corresponding_alike m n f c (spelling lead cycle) in
    (alike_judged m n lead cycle a places o, alike_judged n m lead cycle (flip m n _ a) places o)
