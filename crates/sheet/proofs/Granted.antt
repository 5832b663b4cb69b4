-- Bytes that spell a content are read as it. Assumes nothing.
use Rattle.std.proofs.Common.{◌≡◌, ℕ, ◌+◌, ◌≤◌, List, [], ◌∷◌, length, Ok, Result, sym, refl, ap, ◌∙◌}
use mathlib.Core.Path.{fun_ext}
use Rattle.std.proofs.lemmas.Bool.{le-ltb, cond-false}
use Rattle.refusal.specs.Answers.{Said, and_then}
use Rattle.names.specs.Names.{declared}
use Rattle.grammar.specs.Descent.{reading}
use Rattle.fields.specs.Pieces.{parts}
use Rattle.fields.proofs.Written.{placed, parts_written}
use Rattle.sheet.specs.declared.order.Due.{Due}
use Rattle.sheet.specs.declared.order.Due.TheVariants.{NameOrRule, LeadIn}
use Rattle.sheet.specs.Layout.{may_end, orderly, ordered}
use Rattle.sheet.specs.Contents.{Fronted, Read, fronted, rounds_in, sheet_read}
use Rattle.sheet.specs.Laws.{Content, spelled, declared_all, content_read}
use Rattle.sheet.proofs.Tags.{run, run_step, run_sheet, and_then_assoc}
use Rattle.sheet.proofs.Content.{tags, round_fields, name_fields, fields_of, spelled_written, tags_fields}

-- fields whose tags lead to where a sheet may end are in order
orderly_run : (stop : ℕ) (d : Due) (p : ℕ) (fs : List (ℕ × List ℕ)) → run d (tags fs) ≡ Ok LeadIn → orderly stop d (placed p fs) ≡ Ok tt
orderly_run stop d p [] h = let e : d ≡ LeadIn = cc in ap (λ x. may_end x stop) e
orderly_run stop d p (f ∷ fs) h =
    let s = run_step d f.0 (tags fs) LeadIn h in
    ap (λ r. and_then r (λ e. orderly stop e (placed (p + 3 + length f.1) fs))) (s.1 p) ∙ orderly_run stop s.0 (p + 3 + length f.1) fs s.2

-- the place behind names that stand at p
behind : ℕ → List (List ℕ) → ℕ
behind p [] = p
behind p (w ∷ ws) = behind (p + 3 + length w) ws

-- the front with these names, the rule at place p, and others behind it
abbrev front_of : List ℕ → ℕ → List (ℕ × List ℕ) → List (List ℕ) → Result Fronted Said
front_of text p others ns = Ok (record { names = ns; text = text; rest = placed (p + 3 + length text) others })

-- the front of names and a rule declares the names in turn
fronted_names : (stop p : ℕ) (names ws : List (List ℕ)) (text : List ℕ) (others : List (ℕ × List ℕ))
    → fronted stop names (placed p (name_fields ws ((2, text) ∷ others))) ≡ and_then (declared_all names ws) (front_of text (behind p ws) others)
unfolding behind
fronted_names stop p names [] text others = refl
fronted_names stop p names (w ∷ ws) text others =
    ap (and_then (declared names w)) (fun_ext (λ ns. fronted_names stop (p + 3 + length w) ns ws text others))
    ∙ sym (and_then_assoc (declared names w) (λ ns. declared_all ns ws) (front_of text (behind p (w ∷ ws)) others))

-- the rounds' fields hold the rounds
rounds_placed : (p : ℕ) (rs : List (List ℕ × List ℕ)) → rounds_in (placed p (round_fields rs)) ≡ rs
rounds_placed p [] = refl
rounds_placed p (r ∷ rs) = ap (λ l. r ∷ l) (rounds_placed (p + 3 + length r.0 + 3 + length r.1) rs)

-- what is read behind the front
rest_read : Fronted → Result Read Said
rest_read f = and_then (reading f.names f.text) (λ ns. Ok (record { names = f.names; nodes = ns; rounds = rounds_in f.rest }))

-- a spelled content is read as that content
pub granted : (s : Content) (bytes : List ℕ) → length bytes ≤ 8192 → bytes ≡ spelled s → sheet_read bytes ≡ content_read s
unfolding rest_read
granted s bytes short e =
    let fs = fields_of s in
    let stop = length bytes in
    let text = s.rule in
    let cuts : parts bytes ≡ placed 0 fs = ap parts (e ∙ spelled_written s) ∙ parts_written 0 fs in
    let runs : run NameOrRule (tags fs) ≡ Ok LeadIn = ap (run NameOrRule) (sym (tags_fields s)) ∙ run_sheet s in
    let order : ordered bytes ≡ Ok tt =
    cond-false _ _ _ (le-ltb 8192 stop short) ∙ ap (orderly stop NameOrRule) cuts ∙ orderly_run stop NameOrRule 0 fs runs in
    let rule : List (List ℕ) → Result Fronted Said = front_of text (behind 0 s.names) (round_fields s.rounds) in
    let front : fronted stop [] (parts bytes) ≡ and_then (declared_all [] s.names) rule =
    ap (fronted stop []) cuts ∙ fronted_names stop 0 [] s.names text (round_fields s.rounds) in
    let rounds = rounds_placed (behind 0 s.names + 3 + length text) s.rounds in
    ap (λ r. and_then r (λ _. and_then (fronted stop [] (parts bytes)) rest_read)) order
    ∙ ap (λ r. and_then r rest_read) front
    ∙ and_then_assoc (declared_all [] s.names) rule rest_read
    ∙ ap (λ rs. and_then (declared_all [] s.names) (λ names. and_then (reading names text) (λ ns.
    Ok (record { names = names; nodes = ns; rounds = rs })))) rounds
