-- A bit put into words one after another. Assumes nothing.
use Rattle.std.proofs.Common.{◌≡◌, ℕ, ◌+◌, ◌^◌, ◌<◌, ◌≤◌, Bool, cond, ◌≢◌, ◌⊎◌, List, map, length, get_or, set, sym, ap, ◌∙◌, inl, inr, arith, length-set}
use Rattle.std.proofs.lemmas.List.{get_or-set_same, get_or-set_other, map-set, length-map}
use Rattle.std.proofs.lemmas.Bool.{cases_eq}
use Rattle.ltl.specs.Words.{bit}
use Rattle.bits.proofs.Bits.{bit_put}

-- bit k was put into the words from place start on and before stop, where p says so of the place
pub record Partly (k start stop : ℕ) (p : ℕ → Bool) (words now : List ℕ) : Type 0 where
  pub size : length now ≡ length words
  pub inside : (i : ℕ) → start ≤ i → i < stop → get_or now i 0 ≡ get_or words i 0 + cond (p i) (2 ^ k) 0
  pub outside : (i : ℕ) → (i < start) ⊎ (stop ≤ i) → get_or now i 0 ≡ get_or words i 0

-- the bit of the word at place i, or what is told of the one behind the last
abbrev pub bit_at : ℕ → List ℕ → Bool → ℕ → Bool
bit_at k now behind i = get_or (map (bit k) now) i behind

module _ (k at : ℕ) (behind : Bool) (cur : List ℕ) (word : ℕ) where
  -- a bit at another place stays
  stays : (i : ℕ) → i ≢ at → bit_at k (set cur at word) behind i ≡ bit_at k cur behind i
  stays i ne = ap (λ l. get_or l i behind) (map-set (bit k) cur at word) ∙ get_or-set_other (map (bit k) cur) at i (bit k word) behind ne

  -- the bit that was put in is there
  pub carried : (old : ℕ) (b : Bool) → at < length cur → old < 2 ^ k → word ≡ old + cond b (2 ^ k) 0 → b ≡ bit_at k (set cur at word) behind at
  carried old b room low e =
      sym
      (ap (λ l. get_or l at behind) (map-set (bit k) cur at word)
      ∙ get_or-set_same (map (bit k) cur) at (bit k word) behind (omega (arith, length-map cur (bit k))) ∙ ap (bit k) e ∙ bit_put k old b low)

  -- one word more at the front, by the bit behind it
  pub marked_down : (start stop : ℕ) (p : ℕ → Bool → Bool) (words : List ℕ) → at < length words → at < stop → start ≡ at + 1
      → word ≡ get_or words at 0 + cond (p at (bit_at k cur behind start)) (2 ^ k) 0 → Partly k start stop (λ i. p i (bit_at k cur behind (i + 1))) words cur
      → Partly k at stop (λ i. p i (bit_at k (set cur at word) behind (i + 1))) words (set cur at word)
  marked_down start stop p words room below one e m = record {
    size = length-set cur at word ∙ m.size;
    inside = λ i h l. elim (cases_eq i at) [
      | inl s ↦
          let next : start ≡ i + 1 = omega arith in
          ap (λ j. get_or (set cur at word) j 0) s ∙ get_or-set_same cur at word 0 (omega (arith, m.size)) ∙ e
          ∙ ap (λ j. get_or words j 0 + cond (p j (bit_at k cur behind start)) (2 ^ k) 0) (sym s)
          ∙ ap (λ j. get_or words i 0 + cond (p i (bit_at k cur behind j)) (2 ^ k) 0) next ∙ later i h
      | inr ne ↦ get_or-set_other cur at i word 0 ne ∙ m.inside i (omega arith) l ∙ later i h
    ];
    outside = λ i h. let ne : i ≢ at = elim h [ inl l ↦ omega arith | inr l ↦ omega arith ] in
        get_or-set_other cur at i word 0 ne ∙ m.outside i (elim h [ inl l ↦ inl (omega arith) | inr l ↦ inr l ]);
  }
    where
      later : (i : ℕ) → at ≤ i
          → get_or words i 0 + cond (p i (bit_at k cur behind (i + 1))) (2 ^ k) 0
          ≡ get_or words i 0 + cond (p i (bit_at k (set cur at word) behind (i + 1))) (2 ^ k) 0
      later i h = let ne : i + 1 ≢ at = omega arith in ap (λ b. get_or words i 0 + cond (p i b) (2 ^ k) 0) (sym (stays (i + 1) ne))
