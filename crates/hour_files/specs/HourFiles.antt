-- Every hour's spreadsheet file is read back: the lines of an hour that was reconstructed fit 64 signed bits, so that they have a file.
--     hour_has_file           the lines of a valid hour's reconstruction have a file
--     hour_read_back          and reading that file gives those lines
--     deck_has_file           the same of the hour that a deck gives
--     deck_read_back
--     hour_file_prints        the file that is written of an hour, read again, prints that hour's lines
--     deck_file_lines         the file that is written of a deck is read as the lines of the deck's report
--     deck_file_prints        and printed it is that report
--     same_file_same_lines    two hours that have the same file have the same lines
--     same_file_same_report   two decks that have the same file have the same report
use Rattle.std.specs.Prelude.{◌≡◌, true, not, List, ℕ, ltb, length}
use Rattle.std.proofs.Common.{ap, sym, ◌∙◌}
use Rattle.rules.specs.Refusals.{accepted}
use Rattle.rules.specs.Hour.{Progress, reconstructed}
use Rattle.rules.specs.Reading.{reading}
use Rattle.rules.specs.Report as reports
use Rattle.rules.specs.Report.{ReportLine, hour_lines, report_lines, report_texts, report}
use Rattle.rules.specs.Spreadsheet as sheets
use Rattle.rules.specs.Spreadsheet.{file_text, has_file, file_lines}
use Rattle.rules.specs.Calls as calls
use Rattle.rules.specs.Calls.{into, file_for, spreadsheet, deck_spreadsheet, spreadsheet_lines}
use Rattle.rules.specs.Writing.{deck_text, valid}
use Rattle.rules.specs.declared.Hour.{Hour}
use Rattle.rules.specs.declared.Refusal.TheVariants.{Short, NoDeck}
use Rattle.laws.specs.Choices.{not_false, accepted_same, refuse_passed, then_passed}
use Rattle.roundtrip.specs.DeckRoundTrip.{valid_reads_back, accepted_is_valid}
use Rattle.file_roundtrip.proofs.FileRoundTrip.{file_read, one_list_only}
use Rattle.hour_files.specs.HourLinesFit.{hour_finishes}

-- An hour.

pub hour_has_file : (h : Hour) (p : Progress) → valid h ≡ true → reconstructed h ≡ accepted p → has_file (hour_lines h p) ≡ true
unfolding sheets.has_file
hour_has_file h p v run = let f = hour_finishes h v p run in rw f.order f.fit

pub hour_read_back : (h : Hour) (p : Progress) → valid h ≡ true → reconstructed h ≡ accepted p → file_lines (file_text (hour_lines h p)) ≡ accepted (hour_lines h p)
hour_read_back h p v run = file_read (hour_lines h p) (hour_has_file h p v run)

-- A deck.

pub deck_has_file : (s : List ℕ) (h : Hour) (p : Progress) → reading s ≡ accepted h → reconstructed h ≡ accepted p → has_file (hour_lines h p) ≡ true
deck_has_file s h p e run = hour_has_file h p (accepted_is_valid s h e) run

pub deck_read_back : (s : List ℕ) (h : Hour) (p : Progress) → reading s ≡ accepted h → reconstructed h ≡ accepted p
    → file_lines (file_text (hour_lines h p)) ≡ accepted (hour_lines h p)
deck_read_back s h p e run = hour_read_back h p (accepted_is_valid s h e) run

-- What the calls write.

-- bytes that are read as the lines of an hour's reconstruction
record FileOf (h : Hour) (bytes : List ℕ) : Type 0 where
  progress : Progress
  run : reconstructed h ≡ accepted progress
  lines : file_lines bytes ≡ accepted (hour_lines h progress)

file_for_lem : (h : Hour) (size : ℕ) (bytes : List ℕ) → valid h ≡ true → file_for h size ≡ accepted bytes → FileOf h bytes
unfolding calls.file_for
file_for_lem h size bytes v e =
    let b = then_passed (reconstructed h) (λ p. into size (file_text (hour_lines h p))) bytes e in
    let p = b.mid in
    let file = file_text (hour_lines h p) in
    let is = accepted_same file bytes (refuse_passed (ltb size (length file)) Short (accepted file) bytes b.second).1 in
    record { progress = p; run = b.first; lines = ap file_lines (sym is) ∙ hour_read_back h p v b.first }

spreadsheet_valid : (h : Hour) (size : ℕ) (bytes : List ℕ) → spreadsheet h size ≡ accepted bytes → (valid h ≡ true) × (file_for h size ≡ accepted bytes)
unfolding calls.spreadsheet
spreadsheet_valid h size bytes e = let q = refuse_passed (not (valid h)) NoDeck (file_for h size) bytes e in (not_false (valid h) q.0, q.1)

-- the lines of a deck's report are its hour's
report_lines_lem : (s : List ℕ) (h : Hour) (p : Progress) → reading s ≡ accepted h → reconstructed h ≡ accepted p → report_lines s ≡ hour_lines h p
unfolding reports.report_lines
report_lines_lem s h p e run = rw (e, run)

pub deck_file_lines : (s : List ℕ) (size : ℕ) (bytes : List ℕ) → deck_spreadsheet s size ≡ accepted bytes → file_lines bytes ≡ accepted (report_lines s)
unfolding calls.deck_spreadsheet
deck_file_lines s size bytes e =
    let b = then_passed (reading s) (λ h. file_for h size) bytes e in
    let f = file_for_lem b.mid size bytes (accepted_is_valid s b.mid b.first) b.second in
    f.lines ∙ ap accepted (sym (report_lines_lem s b.mid f.progress b.first f.run))

-- an hour's file is that of its deck
pub hour_deck : (h : Hour) (size : ℕ) (bytes : List ℕ) → spreadsheet h size ≡ accepted bytes → deck_spreadsheet (deck_text h) size ≡ accepted bytes
unfolding calls.deck_spreadsheet
hour_deck h size bytes e = let q = spreadsheet_valid h size bytes e in rw (valid_reads_back h q.0) q.1

lines_printed : (bytes : List ℕ) (ls : List ReportLine) (n : ℕ) → file_lines bytes ≡ accepted ls → spreadsheet_lines bytes n ≡ into n (report_texts ls)
unfolding calls.spreadsheet_lines
lines_printed bytes ls n e = rw e

pub hour_file_prints : (h : Hour) (p : Progress) (size : ℕ) (bytes : List ℕ) → reconstructed h ≡ accepted p → spreadsheet h size ≡ accepted bytes
    → (n : ℕ) → spreadsheet_lines bytes n ≡ into n (report_texts (hour_lines h p))
hour_file_prints h p size bytes run e n =
    let q = spreadsheet_valid h size bytes e in
    let f = file_for_lem h size bytes q.0 q.1 in
    let same = accepted_same f.progress p (sym f.run ∙ run) in
    lines_printed bytes (hour_lines h p) n (f.lines ∙ ap (λ (p : Progress). accepted (hour_lines h p)) same)

pub deck_file_prints : (s : List ℕ) (size : ℕ) (bytes : List ℕ) → deck_spreadsheet s size ≡ accepted bytes → (n : ℕ) → spreadsheet_lines bytes n ≡ into n (report s)
unfolding reports.report
deck_file_prints s size bytes e n = lines_printed bytes (report_lines s) n (deck_file_lines s size bytes e)

-- The same file.

pub same_file_same_lines : (h k : Hour) (p q : Progress) → valid h ≡ true → valid k ≡ true → reconstructed h ≡ accepted p → reconstructed k ≡ accepted q
    → file_text (hour_lines h p) ≡ file_text (hour_lines k q) → hour_lines h p ≡ hour_lines k q
same_file_same_lines h k p q v w a b e = one_list_only (hour_lines h p) (hour_lines k q) (hour_has_file h p v a) (hour_has_file k q w b) e

pub same_file_same_report : (s t : List ℕ) (m n : ℕ) (bytes : List ℕ) → deck_spreadsheet s m ≡ accepted bytes → deck_spreadsheet t n ≡ accepted bytes → report s ≡ report t
unfolding reports.report
same_file_same_report s t m n bytes a b = ap report_texts (accepted_same (report_lines s) (report_lines t) (sym (deck_file_lines s m bytes a) ∙ deck_file_lines t n bytes b))
