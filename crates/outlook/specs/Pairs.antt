-- The pair of a forecast, by letters.
use Rattle.std.specs.Prelude.{◌≡◌, ℕ, ◌-◌, ◌^◌, ◌<◌, Bool, true, not, ◌&&◌, ◌||◌, ltb, List, length, ◌==◌, bit_and, nat_eq, nat_lt, slice_index, slice_index_or}
use Rattle.ltl.specs.declared.Node.{Node}
use Rattle.ltl.specs.declared.Node.TheVariants.{True, False, Atom, NotAtom, And, Or, Eventually, Always}
use Rattle.ltl.specs.Arena.{first_of}
use Rattle.few.specs.Items.{items}
use Rattle.forecast.specs.Bounded.{count, nth, some}
use Rattle.forecast.specs.Forecasts.{holds_at}
use Rattle.forecast.specs.Steady.{on_f, on_g, each_g, other_f, breaks, allowed, steady, visiting}
use Rattle.outlook.specs.declared.pair.Pair.{Pair}
use Rattle.outlook.specs.declared.odds.Odds.{Odds}
use Rattle.outlook.specs.Letters.{letters_where}

-- the letters over n names
abbrev pub letters_over : ℕ → ℕ
letters_over n = letters_where (λ a. ltb a (2 ^ n))

-- all 64 letters but these
abbrev pub others : ℕ → ℕ
others word = 2 ^ 64 - 1 - word

-- the letters of the part of an F, or a G; none at any other node
abbrev pub letters_on_f : (ℕ → ℕ) → Node → ℕ
letters_on_f f True = 0
letters_on_f f False = 0
letters_on_f f (Atom a) = 0
letters_on_f f (NotAtom a) = 0
letters_on_f f (And i j) = 0
letters_on_f f (Or i j) = 0
letters_on_f f (Eventually q) = f q
letters_on_f f (Always q) = 0

abbrev pub letters_on_g : (ℕ → ℕ) → Node → ℕ
letters_on_g f True = 0
letters_on_g f False = 0
letters_on_g f (Atom a) = 0
letters_on_g f (NotAtom a) = 0
letters_on_g f (And i j) = 0
letters_on_g f (Or i j) = 0
letters_on_g f (Eventually q) = 0
letters_on_g f (Always q) = f q

-- the letters that break a G within the forecast, and those that meet an F outside it, among the first m nodes
pub record AtOdds (ns : List Node) (I m : ℕ) (o : Odds) : Type 0 where
  pub breaking : o.breaking ≡ letters_where (λ a. some m (each_g 0 ns I (λ q. not (holds_at ns a I q))))
  pub barred : o.barred ≡ letters_where (λ a. some m (other_f 0 ns I (λ q. holds_at ns a I q)))

-- the allowed letters over n names
abbrev pub allowed_letters : ℕ → List Node → ℕ → ℕ
allowed_letters n ns I = letters_where (λ a. nat_lt a (2 ^ n) && allowed n ns I a)

-- an F within whose part no allowed letter meets, or a G outside whose part none fails
abbrev pub unmet_by : List ℕ → ℕ → Bool → Node → Bool
unmet_by ws allowed inside node =
    (inside && on_f (λ q. nat_eq (bit_and allowed (slice_index ws q)) 0) node) || (not inside && on_g (λ q. nat_eq (bit_and allowed (others (slice_index ws q))) 0) node)

-- an F within that some letter fails to meet
abbrev pub visited_by : List ℕ → ℕ → Bool → Node → Bool
visited_by ws every inside node = inside && on_f (λ q. not (bit_and every (others (slice_index ws q)) == 0)) node

-- the visit sets that the first m nodes give
pub record Visits (n : ℕ) (ns : List Node) (I m : ℕ) (sets : List ℕ) : Type 0 where
  pub count : length sets ≡ count m (visiting n ns I)
  pub letters : (j : ℕ) → j < length sets → slice_index sets j ≡ letters_where (λ a. holds_at ns a I (first_of (slice_index_or ns (nth m (visiting n ns I) j) True)))

-- the pair of a steady forecast
pub record PairOf (n : ℕ) (ns : List Node) (I : ℕ) (p : Pair) : Type 0 where
  pub steady : steady n ns I ≡ true
  pub forecast : p.forecast ≡ I
  pub breaking : p.breaking ≡ letters_where (breaks n ns I)
  pub visits : Visits n ns I (length ns) (items p.visits)
