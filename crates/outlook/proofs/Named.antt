-- The letters that have a name, as constants. Assumes nothing.
use Rattle.std.proofs.Common.{◌≡◌, ℕ, zero, suc, ◌+◌, ◌^◌, ◌<◌, ◌≤◌, false, List, [], ◌∷◌, get_or, sym, refl, ◌∙◌, arith, pow_mono, inl, inr}
use Rattle.std.proofs.lemmas.Bool.{cases_lt}
use Rattle.std.proofs.lemmas.List.{get_or_past}
use Rattle.ltl.specs.Words.{bit}
use Rattle.bits.specs.Gathered.{gathered}
use Rattle.bits.proofs.Bits.{bit_none}
use Rattle.bits.proofs.Collected.{gathered_same, gathered_zero}
use Rattle.outlook.specs.Letters.{letters_where}

abbrev pub named_letters : List ℕ
named_letters =
    0xAAAA_AAAA_AAAA_AAAA ∷ 0xCCCC_CCCC_CCCC_CCCC ∷ 0xF0F0_F0F0_F0F0_F0F0 ∷ 0xFF00_FF00_FF00_FF00 ∷ 0xFFFF_0000_FFFF_0000 ∷ 0xFFFF_FFFF_0000_0000 ∷ []

named_right : (k : ℕ) → k < 6 → get_or named_letters k 0 ≡ letters_where (bit k)
unfolding gathered
named_right zero l = refl
named_right (suc zero) l = refl
named_right (suc (suc zero)) l = refl
named_right (suc (suc (suc zero))) l = refl
named_right (suc (suc (suc (suc zero)))) l = refl
named_right (suc (suc (suc (suc (suc zero))))) l = refl
named_right (suc (suc (suc (suc (suc (suc k)))))) l = let z : ⊥ = omega arith in absurd z

-- no letter has a name from number 6 on
named_past : (k : ℕ) → 6 ≤ k → 0 ≡ letters_where (bit k)
named_past k l =
    gathered_zero 0 64
    ∙ gathered_same (λ a. false) (bit k) 0 64 (λ a h. let wide : 2 ^ 6 ≤ 2 ^ k = pow_mono l in sym (bit_none k (0 + a) (omega arith)))

pub named_all : (k : ℕ) → get_or named_letters k 0 ≡ letters_where (bit k)
named_all k = elim (cases_lt k 6) [ inl h ↦ named_right k h | inr h ↦ get_or_past named_letters k 0 h ∙ named_past k h ]
