-- What is sent for a deck, and how the run then ends.
use Rattle.std.specs.Prelude.{◌≡◌, refl, Bool, true, false, List, [], ◌∷◌, ◌++◌, ℕ, ◌≤◌, length, take, drop, ltb, nat_eq, Option, None, Some, IfSome, Result, Ok, Err, OnOk}
use Rattle.std.proofs.Common.{arith, le-ltb}
use Rattle.std.proofs.Math.Seq.{take-append_seam}
use Rattle.std.specs.List.{starts_with}
use Rattle.std.specs.Io.KnownBytes.{Appends}
use Rattle.rules.specs.Words.{when◌then◌else◌, text}
use Rattle.rules.specs.Answers.{written_of}
use Rattle.rules.specs.Refusals.{Outcome, accepted, refused, refuse, and_then}
use Rattle.rules.specs.Hour.{Progress, reconstructed}
use Rattle.rules.specs.Reading.{reading}
use Rattle.rules.specs.Report as reports
use Rattle.rules.specs.Report.{ReportLine, hour_lines, lines_of, report_texts, report}
use Rattle.rules.specs.Spreadsheet.{file_text}
use Rattle.rules.specs.Calls as calls
use Rattle.rules.specs.Calls.{into, reporting, deck_spreadsheet, leaves}
use Rattle.rules.specs.Writing.{valid}
use Rattle.rules.specs.declared.Hour.{Hour}
use Rattle.rules.specs.declared.Refusal.{Refusal}
use Rattle.rules.specs.declared.Refusal.TheVariants.{Short}
use Rattle.roundtrip.specs.DeckRoundTrip.{accepted_is_valid}
use Rattle.write_spreadsheet.specs.FileFits.{most_file, file_fits}
use Rattle.frames.specs.declared.Ending.{Ending}
use Rattle.frames.specs.declared.Failure.{Failure}
use Rattle.frames.specs.declared.Ending.TheVariants.{Written, Refused}

-- the lines of a deck's report, or why the deck is refused
unfoldable pub deck_lines : List ℕ → Outcome (List ReportLine)
deck_lines s = and_then (reading s) λ h. and_then (reconstructed h) λ p. accepted (hour_lines h p)

abbrev pub ending_of : Outcome (List ReportLine) → Ending
ending_of (accepted ls) = Written
ending_of (refused r) = Refused

-- what stands before so many bytes of an answer of a kind
abbrev pub Head : Type 0
Head = List ℕ → ℕ → List ℕ

abbrev pub with_head : Head → List ℕ → List ℕ → List ℕ
with_head head word bytes = head word (length bytes) ++ bytes

abbrev pub report_sent : Head → List ℕ → List ℕ
report_sent head s = with_head head (text "report ") (report s)

-- the spreadsheet file; of a refused deck its report
abbrev pub file_sent : Head → List ℕ → Outcome (List ReportLine) → List ℕ
file_sent head s (accepted ls) = with_head head (text "spreadsheet ") (file_text ls)
file_sent head s (refused r) = report_sent head s

-- what an asker's put promises, whether or not it is known what was sent before
pub appended : (r : Result (Unit {0}) Failure) (before after : Option (List ℕ)) (bs : List ℕ) → IfSome before (λ xs. OnOk r (Appends (Some xs) after bs)) → OnOk r (Appends before after bs)
appended (Ok u) None after bs h = tt
appended (Err e) None after bs h = tt
appended (Ok u) (Some xs) after bs h = h
appended (Err e) (Some xs) after bs h = tt

-- A call's text, in a lent buffer that it left.

module _ (head : Head) (word w : List ℕ) (n : ℕ) (buf out : List ℕ) where
  pub text_sent : (size : ℕ) → Ok n ≡ written_of (into size w) → out ≡ leaves (into size w) buf → (head word n ++ take n out ≡ with_head head word w) × (out ≡ w ++ drop (length w) buf)
  text_sent size = go (ltb size (length w))
    where
      go : (b : Bool) → Ok n ≡ written_of (refuse b Short (accepted w)) → out ≡ leaves (refuse b Short (accepted w)) buf → (head word n ++ take n out ≡ with_head head word w) × (out ≡ w ++ drop (length w) buf)
      go true e f = absurd cc
      go false e f = let k : n ≡ length w = cc in (rw (k, f, take-append_seam w (drop (length w) buf)), f)

-- The report.

-- its first byte tells how the run ends
pub first_tells : (s after : List ℕ) → ending_of (deck_lines s) ≡ (when starts_with nat_eq (report s ++ after) (114 ∷ []) then Refused else Written)
unfolding deck_lines reports.report reports.report_lines reports.report_texts reports.report_text reports.hour_lines
first_tells s after = go (reading s)
  where
    run : (h : Hour) (t : Outcome Progress) → ending_of (and_then t λ p. accepted (hour_lines h p)) ≡ (when starts_with nat_eq (report_texts (lines_of (and_then t λ p. accepted (hour_lines h p))) ++ after) (114 ∷ []) then Refused else Written)
    run h (accepted p) = refl
    run h (refused r) = refl

    go : (t : Outcome Hour) → ending_of (and_then t λ h. and_then (reconstructed h) λ p. accepted (hour_lines h p)) ≡ (when starts_with nat_eq (report_texts (lines_of (and_then t λ h. and_then (reconstructed h) λ p. accepted (hour_lines h p))) ++ after) (114 ∷ []) then Refused else Written)
    go (accepted h) = run h (reconstructed h)
    go (refused r) = refl

pub report_put : (head : Head) (s : List ℕ) (size n : ℕ) (buf out : List ℕ) → Ok n ≡ written_of (reporting s size) → out ≡ leaves (reporting s size) buf
    → (head (text "report ") n ++ take n out ≡ report_sent head s) × (ending_of (deck_lines s) ≡ (when starts_with nat_eq out (114 ∷ []) then Refused else Written))
unfolding calls.reporting
report_put head s size n buf out e f =
    let t = text_sent head (text "report ") (report s) n buf out size e f in
    (t.0, rw t.1 (first_tells s (drop (length (report s)) buf)))

-- The file.

module _ (head : Head) (s : List ℕ) where
  pub file_put : (size n : ℕ) (buf out : List ℕ) → Ok n ≡ written_of (deck_spreadsheet s size) → out ≡ leaves (deck_spreadsheet s size) buf
      → (head (text "spreadsheet ") n ++ take n out ≡ file_sent head s (deck_lines s)) × (ending_of (deck_lines s) ≡ Written)
  unfolding deck_lines calls.deck_spreadsheet calls.file_for
  file_put size n buf out = go (reading s)
    where
      run : (h : Hour) (t : Outcome Progress) → Ok n ≡ written_of (and_then t λ p. into size (file_text (hour_lines h p))) → out ≡ leaves (and_then t λ p. into size (file_text (hour_lines h p))) buf
          → (head (text "spreadsheet ") n ++ take n out ≡ file_sent head s (and_then t λ p. accepted (hour_lines h p))) × (ending_of (and_then t λ p. accepted (hour_lines h p)) ≡ Written)
      run h (accepted p) e f = ((text_sent head (text "spreadsheet ") (file_text (hour_lines h p)) n buf out size e f).0, refl)
      run h (refused r) e f = absurd cc

      go : (t : Outcome Hour) → Ok n ≡ written_of (and_then t λ h. and_then (reconstructed h) λ p. into size (file_text (hour_lines h p))) → out ≡ leaves (and_then t λ h. and_then (reconstructed h) λ p. into size (file_text (hour_lines h p))) buf
          → (head (text "spreadsheet ") n ++ take n out ≡ file_sent head s (and_then t λ h. and_then (reconstructed h) λ p. accepted (hour_lines h p))) × (ending_of (and_then t λ h. and_then (reconstructed h) λ p. accepted (hour_lines h p)) ≡ Written)
      go (accepted h) e f = run h (reconstructed h) e f
      go (refused r) e f = absurd cc

  -- of a deck that has none, where there was room for any, the report is sent
  pub file_refused : (size : ℕ) (r : Refusal) → Err r ≡ written_of (deck_spreadsheet s size) → most_file ≤ size → report_sent head s ≡ file_sent head s (deck_lines s)
  unfolding deck_lines calls.deck_spreadsheet calls.file_for
  file_refused size r e long = go (reading s) refl e
    where
      run : (h : Hour) → valid h ≡ true → (t : Outcome Progress) → reconstructed h ≡ t → Err r ≡ written_of (and_then t λ p. into size (file_text (hour_lines h p))) → report_sent head s ≡ file_sent head s (and_then t λ p. accepted (hour_lines h p))
      run h v (accepted p) k e =
          let w = file_text (hour_lines h p) in
          let f = le-ltb size (length w) (omega (arith, file_fits h p v k, long)) in
          let g : Err r ≡ Ok (length w) = rw f at e in
          cc
      run h v (refused q) k e = refl

      go : (t : Outcome Hour) → reading s ≡ t → Err r ≡ written_of (and_then t λ h. and_then (reconstructed h) λ p. into size (file_text (hour_lines h p))) → report_sent head s ≡ file_sent head s (and_then t λ h. and_then (reconstructed h) λ p. accepted (hour_lines h p))
      go (accepted h) k e = run h (accepted_is_valid s h k) (reconstructed h) refl e
      go (refused q) k e = refl
