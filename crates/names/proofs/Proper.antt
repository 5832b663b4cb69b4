-- Declaring a name keeps the names proper. Assumes nothing.
use Rattle.std.proofs.Common.{◌≡◌, ℕ, suc, ◌+◌, ◌<◌, Bool, true, false, cond, not, ◌||◌, ltb, List, [], ◌∷◌, ◌++◌, length, Ok, sym, refl, ap, ◌∙◌, arith}
use Rattle.std.specs.Str.{bytes_eq}
use Rattle.std.proofs.lemmas.Slice.Eq.{bytes_eq-Decides}
use Rattle.std.proofs.lemmas.Bool.{lt-ltb, lt-leb, cond-false, and_parts, and_from, or_parts, or_from, not_from_false, not_from_true, not-true}
use Rattle.std.proofs.lemmas.Bool.Decides.{nat_tests, same_from_decides}
use Rattle.refusal.specs.declared.Layer.TheVariants.{Names}
use Rattle.refusal.specs.Answers.{refused}
use Rattle.ltl.specs.Lists.{position}
use Rattle.names.specs.Names.{well_formed, has, proper, declared}

module _ (v : List ℕ) (vs : List (List ℕ)) (w : List ℕ) where
  has_step : (b : Bool) (p n : ℕ) → ltb (cond (not b) (1 + p) 0) (suc n) ≡ (b || ltb p n)
  has_step true p n = lt-ltb 0 (suc n) (omega arith)
  has_step false p n = grind (arith, nat_tests)

  -- a list has its first name and those behind it
  pub has_cons : has (v ∷ vs) w ≡ (bytes_eq w v || has vs w)
  has_cons = has_step (bytes_eq w v) (position bytes_eq w vs) (length vs)

same_flip : (a b : List ℕ) → bytes_eq a b ≡ bytes_eq b a
same_flip a b =
    let d = bytes_eq-Decides a b in
    let e = bytes_eq-Decides b a in
    same_from_decides (bytes_eq a b) (bytes_eq b a) d ((λ h. sym (e.0 h)), (λ h. e.1 (sym h)))

has_push : (vs : List (List ℕ)) (w v : List ℕ) → has vs v ≡ false → bytes_eq v w ≡ false → has (vs ++ (w ∷ [])) v ≡ false
has_push [] w v h e = has_cons w [] v ∙ or_from (bytes_eq v w) (has [] v) e refl
has_push (u ∷ vs) w v h e =
    let parts = or_parts (bytes_eq v u) (has vs v) (sym (has_cons u vs v) ∙ h) in
    has_cons u (vs ++ (w ∷ [])) v ∙ or_from (bytes_eq v u) _ parts.0 (has_push vs w v parts.1 e)

pub proper_push : (vs : List (List ℕ)) (w : List ℕ) → proper vs ≡ true → well_formed w ≡ true → has vs w ≡ false → proper (vs ++ (w ∷ [])) ≡ true
proper_push [] w p f h = and_from (well_formed w) _ f refl
proper_push (v ∷ vs) w p f h =
    let front = and_parts (well_formed v) _ p in
    let back = and_parts (not (has vs v)) (proper vs) front.1 in
    let apart = or_parts (bytes_eq w v) (has vs w) (sym (has_cons v vs w) ∙ h) in
    and_from (well_formed v) _ front.0
    (and_from _ _ (not_from_false _ (has_push vs w v (not-true _ back.0) (same_flip v w ∙ apart.0))) (proper_push vs w back.1 f apart.1))

module _ (names : List (List ℕ)) (w : List ℕ) where
  module _ (room : length names < 6) where
    module _ (form : well_formed w ≡ true) where
      to_has : {x : Bool} → has names w ≡ x → declared names w ≡ cond x (refused 2 Names (length names)) (Ok (names ++ (w ∷ [])))
      to_has e = cond-false _ _ _ (lt-leb 6 (length names) room) ∙ cond-false _ _ _ (not_from_true _ form) ∙ ap (λ b. cond b (refused 2 Names (length names)) (Ok (names ++ (w ∷ [])))) e

      pub declared_repeated : has names w ≡ true → declared names w ≡ refused 2 Names (length names)
      declared_repeated e = to_has e

      pub declared_granted : has names w ≡ false → declared names w ≡ Ok (names ++ (w ∷ []))
      declared_granted e = to_has e
