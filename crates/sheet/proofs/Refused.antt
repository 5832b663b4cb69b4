-- Bytes that spell no content stop at the first field that is wrong. Assumes nothing.
use Rattle.std.proofs.Common.{◌≡◌, ℕ, zero, suc, ◌+◌, ◌≤◌, List, [], ◌∷◌, ◌++◌, length, take, drop, Ok, sym, refl, ap, ◌∙◌, subst, inl, inr, arith}
use Rattle.std.proofs.lemmas.List.{take_at, drop_at, append-nil, append_assoc, map_push, flat_map_more, length-append, nil_from_length}
use Rattle.refusal.specs.Answers.{and_then}
use Rattle.fields.specs.Pieces.{parts, parts_from, encoded}
use Rattle.fields.specs.Pieces.Part.{cut}
use Rattle.fields.proofs.Written.{written, parts_encoded, runs_past, bytes_behind, Ahead, ahead}
use Rattle.fields.proofs.Written.Ahead.{nothing, field, runs}
use Rattle.sheet.specs.declared.order.Due.{Due}
use Rattle.sheet.specs.declared.order.Due.TheVariants.{NameOrRule, LeadIn, Cycle}
use Rattle.sheet.specs.Layout.{misplaced, after, may_end, orderly}
use Rattle.sheet.specs.Laws.{Content, spelled, Wrong, Stops, IsBytes}
use Rattle.sheet.specs.Laws.Wrong.{due, past, misfit}
use Rattle.sheet.proofs.Tags.{run, run_append, Either, stepped, no_sheet_on, sheet_ends}
use Rattle.sheet.proofs.Content.{tags, spelled_written, content_of, begins_sheet}

-- the order of bytes, from what is due and a place with these bytes to come, stops at some place, where they are wrong
abbrev Halts : List ℕ → Due → ℕ → List ℕ → Type 0
Halts bytes d at rest = (p : ℕ) × (orderly (length bytes) d (parts_from at 0 rest) ≡ misplaced p) × Stops bytes p

module _ (bytes : List ℕ) (none : (s : Content) → bytes ≡ spelled s → ⊥) where
  module _ (fs : List (ℕ × List ℕ)) (rest : List ℕ) (d : Due) (so : written fs ++ rest ≡ bytes) (here : run NameOrRule (tags fs) ≡ Ok d) where
    -- what is wrong behind fields that run through is where the bytes stop
    stops : Wrong (tags fs) rest → Stops bytes (length (written fs))
    stops w =
        record {
          inside = omega (arith, ap length so, length-append (written fs) rest);
          fields = fs;
          front = sym (take_at (written fs) rest (length (written fs)) refl) ∙ ap (take (length (written fs))) so;
          begins = begins_sheet fs d here;
          wrong = subst (Wrong (tags fs)) (sym (drop_at (written fs) rest (length (written fs)) refl) ∙ ap (drop (length (written fs))) so) w;
        }

    -- a sheet that may end here is spelled, so here it may not
    refused_end : rest ≡ [] → (x : Due) → d ≡ x → (may_end x (length bytes) ≡ misplaced (length bytes)) × (x ≡ LeadIn → ⊥)
    refused_end e NameOrRule q = (refl, λ l. cc)
    refused_end e LeadIn q =
        let c = content_of fs (here ∙ ap (λ x. Ok x) q) in
        absurd (none c.0 (sym so ∙ ap (λ r. written fs ++ r) e ∙ append-nil (written fs) ∙ ap written (sym c.1) ∙ sym (spelled_written c.0)))
    refused_end e Cycle q = (refl, λ l. cc)

    -- at the end a field is still due
    at_end : rest ≡ [] → Halts bytes d (length (written fs)) rest
    at_end e =
        let r = refused_end e d refl in
        let size : length bytes ≡ length (written fs) = ap length (sym so ∙ ap (λ l. written fs ++ l) e ∙ append-nil (written fs)) in (
          length (written fs),
          ap (λ l. orderly (length bytes) d (parts_from (length (written fs)) 0 l)) e ∙ r.0 ∙ ap (λ p. misplaced p) size,
          stops (due e (λ s q. r.1 (sheet_ends (tags fs) d here s q))),
        )

    -- a field that runs past the end is wrong
    at_cut : parts_from (length (written fs)) 0 rest ≡ cut (length (written fs)) ∷ [] → Halts bytes d (length (written fs)) rest
    at_cut e =
        let p = length (written fs) in
        let more : rest ≡ [] → ⊥ = λ q.
        let c : [] ≡ cut p ∷ [] = ap (parts_from p 0) (sym q) ∙ e in
        cc in
        (p, ap (orderly (length bytes) d) e, stops (past more (runs_past p rest e)))

    module _ (t : ℕ) (b more : List ℕ) (e : rest ≡ encoded t b ++ more) where
      -- a whole field decides what is due behind it
      order_on : (p : ℕ) → orderly (length bytes) d (parts_from p 0 rest)
          ≡ and_then (after d t p) (λ x. orderly (length bytes) x (parts_from (p + 3 + length b) 0 more))
      order_on p = ap (λ l. orderly (length bytes) d (parts_from p 0 l)) e ∙ ap (orderly (length bytes) d) (parts_encoded p t b more)

      -- a field that cannot stand here is wrong
      at_misfit : ((p : ℕ) → after d t p ≡ misplaced p) → Halts bytes d (length (written fs)) rest
      at_misfit w =
          let p = length (written fs) in (
            p,
            order_on p ∙ ap (λ r. and_then r (λ x. orderly (length bytes) x (parts_from (p + 3 + length b) 0 more))) (w p),
            stops (misfit t b more e (no_sheet_on (tags fs) d here t w)),
          )

      -- with a field more, the fields passed are still the bytes in front
      so_on : written (fs ++ ((t, b) ∷ [])) ++ more ≡ bytes
      so_on =
          ap (λ l. l ++ more) (sym (flat_map_more (λ f. encoded f.0 f.1) [] fs (t, b)))
          ∙ append_assoc (written fs) (encoded t b) more ∙ ap (λ l. written fs ++ l) (sym e) ∙ so

      -- and run through
      here_on : (x : Due) → after d t 0 ≡ Ok x → run NameOrRule (tags (fs ++ ((t, b) ∷ []))) ≡ Ok x
      here_on x a =
          ap (run NameOrRule) (map_push (λ f. f.0) fs (t, b)) ∙ run_append NameOrRule (tags fs) (t ∷ [])
          ∙ ap (λ r. and_then r (λ y. run y (t ∷ []))) here ∙ ap (λ r. and_then r (λ y. Ok y)) a

      -- a place behind it that is wrong is where the order stops
      halts_on : (x : Due) → ((p : ℕ) → after d t p ≡ Ok x) → Halts bytes x (length (written (fs ++ ((t, b) ∷ [])))) more
          → Halts bytes d (length (written fs)) rest
      halts_on x a h =
          let p = length (written fs) in
          let place : p + 3 + length b ≡ length (written (fs ++ ((t, b) ∷ []))) =
          omega (arith, length-append (written fs) (encoded t b), ap length (flat_map_more (λ f. encoded f.0 f.1) [] fs (t, b))) in (
            h.0,
            order_on p ∙ ap (λ r. and_then r (λ y. orderly (length bytes) y (parts_from (p + 3 + length b) 0 more))) (a p)
                ∙ ap (λ q. orderly (length bytes) x (parts_from q 0 more)) place ∙ h.1,
            h.2,
          )

  -- from any fields that run through, with at most n bytes to come, the bytes stop at a place that is wrong
  Walks : ℕ → Type 0
  Walks n = (fs : List (ℕ × List ℕ)) (rest : List ℕ) (d : Due) → length rest ≤ n → IsBytes rest → written fs ++ rest ≡ bytes
      → run NameOrRule (tags fs) ≡ Ok d → Halts bytes d (length (written fs)) rest

  -- so it is for every n: what stands ahead ends the walk or is passed
  walks : (n : ℕ) → Walks n
  unfolding Walks
  walks zero fs rest d enough small so here = at_end fs rest d so here (nil_from_length rest (omega arith))
  walks (suc n) fs rest d enough small so here = go (walks n) (ahead (length (written fs)) rest small)
    where
      on : Walks n → (t : ℕ) (b more : List ℕ) → rest ≡ encoded t b ++ more → Either (after d t) → Halts bytes d (length (written fs)) rest
      on next t b more e (inl a) =
          let left : length more ≤ n = omega (arith, ap length e, length-append (encoded t b) more) in
          let behind : IsBytes more = bytes_behind (encoded t b) more (subst IsBytes e small) in
          halts_on fs rest d so here t b more e a.0 a.1
          (next (fs ++ ((t, b) ∷ [])) more a.0 left behind (so_on fs rest d so here t b more e) (here_on fs rest d so here t b more e a.0 (a.1 0)))
      on next t b more e (inr w) = at_misfit fs rest d so here t b more e w

      go : Walks n → Ahead (length (written fs)) rest → Halts bytes d (length (written fs)) rest
      go next (nothing e) = at_end fs rest d so here e
      go next (field t b more e) = on next t b more e (stepped d t)
      go next (runs e) = at_cut fs rest d so here e

  -- bytes that spell no content stop at the first place that is wrong
  pub halts : IsBytes bytes → (p : ℕ) × (orderly (length bytes) NameOrRule (parts bytes) ≡ misplaced p) × Stops bytes p
  unfolding Walks
  halts small = walks (length bytes) [] bytes NameOrRule (omega arith) small refl refl
