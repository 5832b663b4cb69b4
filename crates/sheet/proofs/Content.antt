-- A content as a row of fields: fields whose tags run through are some content's. Assumes nothing.
use Rattle.std.proofs.Common.{◌≡◌, ℕ, ◌⊎◌, List, [], ◌∷◌, ◌++◌, map, Ok, Result, sym, refl, ap, ◌∙◌, inl, inr}
use Rattle.std.specs.List.{flat_map}
use Rattle.std.proofs.lemmas.List.{map-append, append_assoc}
use Rattle.refusal.specs.Answers.{Said, and_then}
use Rattle.fields.specs.Pieces.{encoded}
use Rattle.fields.proofs.Written.{written}
use Rattle.sheet.specs.declared.order.Due.{Due}
use Rattle.sheet.specs.declared.order.Due.TheVariants.{NameOrRule, LeadIn, Cycle}
use Rattle.sheet.specs.Laws.{Content, spelled, tags_of}
use Rattle.sheet.proofs.Tags.{run, run_append, from_name, from_lead, from_cycle}

-- the tags of fields
abbrev pub tags : List (ℕ × List ℕ) → List ℕ
tags fs = map (λ f. f.0) fs

-- the fields of rounds
abbrev pub round_fields : List (List ℕ × List ℕ) → List (ℕ × List ℕ)
round_fields [] = []
round_fields (r ∷ rs) = (3, r.0) ∷ (4, r.1) ∷ round_fields rs

-- the fields of names, then others
abbrev pub name_fields : List (List ℕ) → List (ℕ × List ℕ) → List (ℕ × List ℕ)
name_fields [] others = others
name_fields (w ∷ ws) others = (1, w) ∷ name_fields ws others

-- the fields of a content
abbrev pub fields_of : Content → List (ℕ × List ℕ)
fields_of s = name_fields s.names ((2, s.rule) ∷ round_fields s.rounds)

-- names spelled, then other fields written, are the names' fields and the others written
written_names : (ws : List (List ℕ)) (others : List (ℕ × List ℕ)) → flat_map (encoded 1) ws ++ written others ≡ written (name_fields ws others)
written_names [] others = refl
written_names (w ∷ ws) others = append_assoc (encoded 1 w) (flat_map (encoded 1) ws) (written others) ∙ ap (λ l. encoded 1 w ++ l) (written_names ws others)

-- rounds are spelled by writing their fields
written_rounds : (rs : List (List ℕ × List ℕ)) → flat_map (λ r. encoded 3 r.0 ++ encoded 4 r.1) rs ≡ written (round_fields rs)
written_rounds [] = refl
written_rounds (r ∷ rs) =
    append_assoc (encoded 3 r.0) (encoded 4 r.1) (flat_map (λ x. encoded 3 x.0 ++ encoded 4 x.1) rs)
    ∙ ap (λ l. encoded 3 r.0 ++ (encoded 4 r.1 ++ l)) (written_rounds rs)

-- a content is spelled by writing its fields
pub spelled_written : (s : Content) → spelled s ≡ written (fields_of s)
spelled_written s =
    ap (λ l. flat_map (encoded 1) s.names ++ (encoded 2 s.rule ++ l)) (written_rounds s.rounds)
    ∙ written_names s.names ((2, s.rule) ∷ round_fields s.rounds)

-- the tags of rounds are those of their fields
tags_rounds : (rs : List (List ℕ × List ℕ)) → flat_map (λ _. 3 ∷ 4 ∷ []) rs ≡ tags (round_fields rs)
tags_rounds [] = refl
tags_rounds (r ∷ rs) = ap (λ l. 3 ∷ 4 ∷ l) (tags_rounds rs)

-- and so it is with names, then others
tags_names : (ws : List (List ℕ)) (others : List (ℕ × List ℕ)) → map (λ _. 1) ws ++ tags others ≡ tags (name_fields ws others)
tags_names [] others = refl
tags_names (w ∷ ws) others = ap (λ l. 1 ∷ l) (tags_names ws others)

-- its tags are those of its fields
pub tags_fields : (s : Content) → tags_of s ≡ tags (fields_of s)
tags_fields s = ap (λ l. map (λ _. 1) s.names ++ (2 ∷ l)) (tags_rounds s.rounds) ∙ tags_names s.names ((2, s.rule) ∷ round_fields s.rounds)

-- fields that lead from a lead-in back to one are some rounds'
rounds_of : (fs : List (ℕ × List ℕ)) → run LeadIn (tags fs) ≡ Ok LeadIn → (rs : List (List ℕ × List ℕ)) × (round_fields rs ≡ fs)
rounds_of [] h = ([], refl)
rounds_of (f ∷ []) h =
    let c : ◌≡◌ {A = Result Due Said} (Ok Cycle) (Ok LeadIn) = (from_lead f.0 [] LeadIn h).1 in
    absurd (cc)
rounds_of (f ∷ g ∷ fs) h =
    let a = from_lead f.0 (g.0 ∷ tags fs) LeadIn h in
    let b = from_cycle g.0 (tags fs) LeadIn a.1 in
    let more = rounds_of fs b.1 in
    ((f.1, g.1) ∷ more.0, λ i. (sym a.0 i, f.1) ∷ (sym b.0 i, g.1) ∷ more.1 i)

-- fields that lead from the start to where a sheet may end are some content's
pub content_of : (fs : List (ℕ × List ℕ)) → run NameOrRule (tags fs) ≡ Ok LeadIn → (s : Content) × (fields_of s ≡ fs)
content_of [] h = absurd (cc)
content_of (f ∷ fs) h = go (from_name f.0 (tags fs) LeadIn h) (content_of fs)
  where
    go : ((f.0 ≡ 1) × (run NameOrRule (tags fs) ≡ Ok LeadIn)) ⊎ ((f.0 ≡ 2) × (run LeadIn (tags fs) ≡ Ok LeadIn))
        → (run NameOrRule (tags fs) ≡ Ok LeadIn → (s : Content) × (fields_of s ≡ fs)) → (s : Content) × (fields_of s ≡ f ∷ fs)
    go (inl a) ih =
        let r = ih a.1 in
        (record { names = f.1 ∷ r.0.names; rule = r.0.rule; rounds = r.0.rounds }, λ i. (sym a.0 i, f.1) ∷ r.1 i)
    go (inr a) ih =
        let r = rounds_of fs a.1 in
        (record { names = []; rule = f.1; rounds = r.0 }, λ i. (sym a.0 i, f.1) ∷ r.1 i)

-- fields that end a sheet where d is due
ending : Due → List (ℕ × List ℕ)
ending NameOrRule = (2, []) ∷ []
ending LeadIn = []
ending Cycle = (4, []) ∷ []

-- with them it may end
run_ending : (d : Due) → run d (tags (ending d)) ≡ Ok LeadIn
unfolding ending
run_ending NameOrRule = refl
run_ending LeadIn = refl
run_ending Cycle = refl

-- fields whose tags run through begin some sheet
pub begins_sheet : (fs : List (ℕ × List ℕ)) (d : Due) → run NameOrRule (tags fs) ≡ Ok d → (s : Content) × (others : List ℕ) × (tags fs ++ others ≡ tags_of s)
begins_sheet fs d h =
    let join : tags (fs ++ ending d) ≡ tags fs ++ tags (ending d) = map-append (λ f. f.0) fs (ending d) in
    let whole : run NameOrRule (tags (fs ++ ending d)) ≡ Ok LeadIn =
    ap (run NameOrRule) join ∙ run_append NameOrRule (tags fs) (tags (ending d)) ∙ ap (λ r. and_then r (λ e. run e (tags (ending d)))) h ∙ run_ending d in
    let c = content_of (fs ++ ending d) whole in
    (c.0, tags (ending d), sym join ∙ ap tags (sym c.1) ∙ sym (tags_fields c.0))
