-- What reading a sheet comes to. Assumes nothing.
use Rattle.std.proofs.Common.{◌≡◌, ℕ, List, [], length, Ok, Result, sym, ap, ◌∙◌, subst}
use Rattle.std.proofs.lemmas.Bool.{lt-ltb, le-ltb, cond-true, cond-false}
use Rattle.refusal.specs.Answers.{Said, and_then}
use Rattle.grammar.specs.Descent.{reading}
use Rattle.fields.specs.Pieces.{parts}
use Rattle.sheet.specs.Layout.{misplaced, ordered}
use Rattle.sheet.specs.Contents.{Read, fronted, rounds_in, sheet_read}
use Rattle.sheet.specs.Laws.{BySheet, IsBytes, SheetReading}
use Rattle.sheet.proofs.Granted.{granted}
use Rattle.sheet.proofs.Refused.{halts}

-- where the layout is refused, so is the sheet
refused_whole : (bytes : List ℕ) (p : ℕ) → ordered bytes ≡ misplaced p → sheet_read bytes ≡ misplaced p
refused_whole bytes p e =
    ap (λ r. and_then r (λ _. and_then (fronted (length bytes) [] (parts bytes)) (λ f.
    and_then (reading f.names f.text) (λ ns. Ok (record { names = f.names; nodes = ns; rounds = rounds_in f.rest }))))) e

-- every row of bytes is read as the law says
pub sheet_reading : SheetReading
sheet_reading bytes small =
    record {
      long = λ h. refused_whole bytes 8192 (cond-true _ _ _ (lt-ltb 8192 (length bytes) h));
      good = λ s h e. granted s bytes h e;
      bad = λ h none.
          let r = halts bytes none small in
          (r.0, refused_whole bytes r.0 (cond-false _ _ _ (le-ltb 8192 (length bytes) h) ∙ r.1), r.2);
    }

-- whatever comes of bytes as the definition says it is lawful
pub lawful : (bytes : List ℕ) (came : Result Read Said) → IsBytes bytes → came ≡ sheet_read bytes
    → record { outcome : came ≡ sheet_read bytes; law : BySheet bytes came }
lawful bytes came small e = record { outcome = e; law = subst (BySheet bytes) (sym e) (sheet_reading bytes small) }
