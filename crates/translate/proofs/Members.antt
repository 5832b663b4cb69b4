-- Sets of forecasts, by their members. Assumes nothing.
use Rattle.std.proofs.Common.{◌≡◌, ℕ, zero, suc, ◌+◌, ◌-◌, ◌*◌, ◌/◌, ◌%◌, ◌^◌, ◌<◌, ◌≤◌, Bool, true, false, cond, ◌&&◌, ◌||◌, eqb, ltb, List, [], ◌∷◌, length, get_or, set, sym, refl, ap, ◌∙◌, ap₂, subst, inl, inr, arith, length-set, below_more, pow_mono}
use native.Mathlib.Nat.{mod-eq_of_lt}
use lib.Bits.{bit_or, or_lt}
use Rattle.std.proofs.lemmas.Bool.{cases_lt, cases_eq, eq-eqb, ne_eqb, lt-ltb, le-ltb}
use Rattle.std.proofs.lemmas.List.{get_or-set_same, get_or-set_other}
use Rattle.std.proofs.lemmas.Nat.{pow_pos, pow_below}
use Rattle.ltl.specs.Words.{bit}
use Rattle.bits.proofs.Bits.{bit_none, bit_put, bit_kept, put_below}
use Rattle.bits.proofs.Joined.{bit_bit_or}
use Rattle.bits.specs.Gathered.{gathered}
use Rattle.bits.proofs.Collected.{gathered_same, gathered_is, gathered_bit, gathered_ones}
use Rattle.translate.specs.declared.state.Forecasts.{Forecasts}
use Rattle.translate.specs.States.{set_of, member}
use Rattle.translate.specs.Sifted.{Part}

-- tests that agree have one set
pub set_of_same : (f g : ℕ → Bool) → ((J : ℕ) → J < 256 → f J ≡ g J) → set_of f ≡ set_of g
set_of_same f g same =
    ap from_words (ap₂ ◌∷◌ (word 0 (omega arith)) (ap₂ ◌∷◌ (word 64 (omega arith)) (ap₂ ◌∷◌ (word 128 (omega arith)) (ap (λ w. w ∷ []) (word 192 (omega arith))))))
  where
    from_words : List ℕ → Forecasts
    from_words ws = record { words = ws }

    word : (base : ℕ) → base < 193 → gathered f base 64 ≡ gathered g base 64
    word base h = gathered_same f g base 64 (λ k l. same (base + k) (omega arith))

four_words : (ws : List ℕ) → length ws ≡ 4 → ws ≡ get_or ws 0 0 ∷ get_or ws 1 0 ∷ get_or ws 2 0 ∷ get_or ws 3 0 ∷ []
four_words (a ∷ b ∷ c ∷ d ∷ []) e = refl
four_words [] e = let z : ⊥ = omega arith in absurd z
four_words (a ∷ []) e = let z : ⊥ = omega arith in absurd z
four_words (a ∷ b ∷ []) e = let z : ⊥ = omega arith in absurd z
four_words (a ∷ b ∷ c ∷ []) e = let z : ⊥ = omega arith in absurd z
four_words (a ∷ b ∷ c ∷ d ∷ f ∷ ws) e = let z : ⊥ = omega arith in absurd z

-- a set is that of its members
pub set_whole : (s : Forecasts) → length s.words ≡ 4 → ((q : ℕ) → q < 4 → get_or s.words q 0 < 2 ^ 64) → s ≡ set_of (member s)
set_whole s size fits =
    ap from_words (four_words s.words size ∙ ap₂ ◌∷◌ (word 0 0 (omega arith) refl) (ap₂ ◌∷◌ (word 1 64 (omega arith) refl) (ap₂ ◌∷◌ (word 2 128 (omega arith) refl) (ap (λ w. w ∷ []) (word 3 192 (omega arith) refl)))))
  where
    from_words : List ℕ → Forecasts
    from_words ws = record { words = ws }

    word : (q base : ℕ) → q < 4 → base ≡ 64 * q → get_or s.words q 0 ≡ gathered (member s) base 64
    word q base h e = gathered_is (member s) base 64 (get_or s.words q 0) (fits q h) (λ k l.
        ap₂ (λ r p. bit r (get_or s.words p 0)) (omega arith) (omega arith))

-- a power of two has one bit
bit_power : (k j : ℕ) → bit k (2 ^ j) ≡ eqb k j
bit_power k j = elim (cases_lt k j) [
  | inl h ↦ ap (bit k) (let z : 2 ^ j ≡ 0 + 2 ^ j = omega arith in z) ∙ bit_kept k j 0 true h ∙ bit_none k 0 (pow_pos k) ∙ sym (ne_eqb k j (omega arith))
  | inr h ↦ elim (cases_eq k j) [
    | inl e ↦ ap₂ bit e (let z : 2 ^ j ≡ 0 + 2 ^ j = omega arith in z) ∙ bit_put j 0 true (pow_pos j) ∙ sym (eq-eqb k j e)
    | inr ne ↦ bit_none k (2 ^ j) (pow_below j k (omega arith)) ∙ sym (ne_eqb k j ne)
  ]
]

-- a forecast more is put in
pub inserted : (s : Forecasts) (J : ℕ) → J < 256 → length s.words ≡ 4 → ((q : ℕ) → q < 4 → get_or s.words q 0 < 2 ^ 64)
    → record { words = set s.words (J / 64) (bit_or (get_or s.words (J / 64) 0) (1 * 2 ^ (J % 64) % 2 ^ 64)) } ≡ set_of (λ K. eqb J K || member s K)
inserted s J l size fits = set_whole after (length-set s.words (J / 64) word ∙ size) fits_after ∙ set_of_same (member after) (λ K. eqb J K || member s K) here
  where
    word : ℕ
    word = bit_or (get_or s.words (J / 64) 0) (1 * 2 ^ (J % 64) % 2 ^ 64)

    after : Forecasts
    after = record { words = set s.words (J / 64) word }

    power : 1 * 2 ^ (J % 64) % 2 ^ 64 ≡ 2 ^ (J % 64)
    power =
        let one : 1 * 2 ^ (J % 64) ≡ 2 ^ (J % 64) = omega arith in
        ap (λ v. v % 2 ^ 64) one ∙ mod-eq_of_lt (pow_below (J % 64) 64 (omega arith))

    room : J / 64 < length s.words
    room = omega arith

    fits_after : (q : ℕ) → q < 4 → get_or (set s.words (J / 64) word) q 0 < 2 ^ 64
    fits_after q h = elim (cases_eq q (J / 64)) [
      | inl e ↦
          subst (λ w. w < 2 ^ 64) (sym (ap (λ p. get_or (set s.words (J / 64) word) p 0) e ∙ get_or-set_same s.words (J / 64) word 0 room))
          (or_lt 64 (get_or s.words (J / 64) 0) (1 * 2 ^ (J % 64) % 2 ^ 64) (fits (J / 64) (omega arith)) (omega (arith, power, pow_below (J % 64) 64 (omega arith))))
      | inr ne ↦ subst (λ w. w < 2 ^ 64) (sym (get_or-set_other s.words (J / 64) q word 0 ne)) (fits q h)
    ]

    or_swap : (a b : Bool) → (a || b) ≡ (b || a)
    or_swap true true = refl
    or_swap true false = refl
    or_swap false true = refl
    or_swap false false = refl

    here : (K : ℕ) → K < 256 → member after K ≡ (eqb J K || member s K)
    here K h = elim (cases_eq (K / 64) (J / 64)) [
      | inl e ↦
          let low : eqb (K % 64) (J % 64) ≡ eqb J K = elim (cases_eq J K) [
            | inl t ↦ eq-eqb (K % 64) (J % 64) (ap (λ n. n % 64) (sym t)) ∙ sym (eq-eqb J K t)
            | inr ne ↦ ne_eqb (K % 64) (J % 64) (λ t. ne (omega arith)) ∙ sym (ne_eqb J K ne)
          ] in
          ap (bit (K % 64)) (ap (λ p. get_or (set s.words (J / 64) word) p 0) e ∙ get_or-set_same s.words (J / 64) word 0 room)
          ∙ bit_bit_or (K % 64) (get_or s.words (J / 64) 0) (1 * 2 ^ (J % 64) % 2 ^ 64)
          ∙ ap₂ (λ x y. x || y) (ap (λ p. bit (K % 64) (get_or s.words p 0)) (sym e)) (ap (bit (K % 64)) power ∙ bit_power (K % 64) (J % 64) ∙ low)
          ∙ or_swap (member s K) (eqb J K)
      | inr ne ↦
          ap (bit (K % 64)) (get_or-set_other s.words (J / 64) (K / 64) word 0 ne)
          ∙ sym (ap (λ b. b || member s K) (ne_eqb J K (λ t. ne (ap (λ n. n / 64) (sym t)))))
    ]

-- a word so far: what its bits below j say, and it has no other
pub record Gathering (Says : ℕ → Bool → Type 0) (j word : ℕ) : Type 0 where
  pub below : word < 2 ^ j
  pub says : (k : ℕ) → k < j → Says k (bit k word)

pub gathering_none : (Says : ℕ → Bool → Type 0) → Gathering Says 0 0
gathering_none Says = record { below = pow_pos 0; says = λ k h. let z : ⊥ = omega arith in absurd z }

module _ (Says : ℕ → Bool → Type 0) (j word : ℕ) (before : Gathering Says j word) where
  -- one bit more
  pub gathering_more : (b : Bool) (after : ℕ) → after ≡ word + cond b (2 ^ j) 0 → Says j b → Gathering Says (j + 1) after
  gathering_more b after e said = record {
    below = subst (λ w. w < 2 ^ (j + 1)) (sym e) (put_below j word b before.below);
    says = below_more (λ k. Says k (bit k after)) j
        (λ k h. subst (Says k) (sym (ap (bit k) e ∙ bit_kept k j word b h)) (before.says k h))
        (subst (Says j) (sym (ap (bit j) e ∙ bit_put j word b before.below)) said);
  }

  -- no bit from j on
  pub gathering_past : (k : ℕ) → j ≤ k → bit k word ≡ false
  gathering_past k h = bit_none k word (let grown : 2 ^ j ≤ 2 ^ k = pow_mono h in let low : word < 2 ^ j = before.below in omega arith)

-- what a bit says where bit k of another word lets it: that is what is to be, and elsewhere the bit is not set
pub record Told (Post : ℕ → Bool → Type 0) (among base k : ℕ) (b : Bool) : Type 0 where
  pub answers : bit k among ≡ true → Post (base + k) b
  pub others : bit k among ≡ false → b ≡ false

-- four words that follow one another are a set
module _ (Post : ℕ → Bool → Type 0) (count : ℕ) (few : count ≤ 256) (among : Forecasts) (a b c d : ℕ)
    (first : Part Post count (get_or among.words 0 0) 0 a) (second : Part Post count (get_or among.words 1 0) 64 b)
    (third : Part Post count (get_or among.words 2 0) 128 c) (fourth : Part Post count (get_or among.words 3 0) 192 d) where
  abbrev joined : Forecasts
  joined = record { words = a ∷ b ∷ c ∷ d ∷ [] }

  part : (i : ℕ) → i < 4 → Part Post count (get_or among.words i 0) (64 * i) (get_or joined.words i 0)
  part zero h = first
  part (suc zero) h = second
  part (suc (suc zero)) h = third
  part (suc (suc (suc zero))) h = fourth
  part (suc (suc (suc (suc i)))) h = let z : ⊥ = omega arith in absurd z

  pub joined_answers : (J : ℕ) → J < count → member among J ≡ true → Post J (member joined J)
  joined_answers J h in_set =
      let whole : 64 * (J / 64) + J % 64 ≡ J = omega arith in
      subst (λ i. Post i (member joined J)) whole ((part (J / 64) (omega arith)).answers (J % 64) (omega arith) (omega arith) in_set)

  pub joined_others : (J : ℕ) → J < count → member among J ≡ false → member joined J ≡ false
  joined_others J h out = (part (J / 64) (omega arith)).others (J % 64) (omega arith) out

  pub joined_only : a < 2 ^ 64 → b < 2 ^ 64 → c < 2 ^ 64 → d < 2 ^ 64 → joined ≡ set_of (λ J. ltb J count && member joined J)
  joined_only la lb lc ld = set_whole joined refl fits ∙ set_of_same (member joined) (λ J. ltb J count && member joined J) (λ J u. elim (cases_lt J count) [
    | inl h ↦ sym (ap (λ t. t && member joined J) (lt-ltb J count h))
    | inr h ↦ (part (J / 64) (omega arith)).past (J % 64) (omega arith) (omega arith) ∙ sym (ap (λ t. t && member joined J) (le-ltb J count h))
  ])
    where
      fits : (i : ℕ) → i < 4 → get_or joined.words i 0 < 2 ^ 64
      fits zero h = la
      fits (suc zero) h = lb
      fits (suc (suc zero)) h = lc
      fits (suc (suc (suc zero))) h = ld
      fits (suc (suc (suc (suc i)))) h = let z : ⊥ = omega arith in absurd z

-- the set with everything in it
abbrev pub everything : Forecasts
everything = record { words = (2 ^ 64 - 1) ∷ (2 ^ 64 - 1) ∷ (2 ^ 64 - 1) ∷ (2 ^ 64 - 1) ∷ [] }

pub member_everything : (J : ℕ) → J < 256 → member everything J ≡ true
member_everything J l = ap (bit (J % 64)) (full (J / 64) (omega arith)) ∙ ap (bit (J % 64)) (gathered_ones 0 64) ∙ gathered_bit (λ _. true) 0 64 (J % 64) (omega arith)
  where
    full : (i : ℕ) → i < 4 → get_or everything.words i 0 ≡ 2 ^ 64 - 1
    full zero h = refl
    full (suc zero) h = refl
    full (suc (suc zero)) h = refl
    full (suc (suc (suc zero))) h = refl
    full (suc (suc (suc (suc i)))) h = let z : ⊥ = omega arith in absurd z
