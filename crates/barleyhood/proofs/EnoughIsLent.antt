-- So much is always enough: with 131,072 bytes lent every deck has its report, with 147,456 every accepted hour its spreadsheet file, and with twice a
-- file's bytes every file that is accepted its lines. The answer is then the count, whatever else is lent.
use Rattle.std.specs.Prelude.{Result, Ok}
use Rattle.rules.specs.declared.Refusal.{Refusal}
use mathlib.Core.Bool.{Bool, true}
use mathlib.Core.List.{List}
use mathlib.Core.Path.{◌≡◌, ap, ◌∙◌}
use Prim.Native.Nat.{ℕ, ◌*◌, ◌≤◌}
use native.Mathlib.Omega.{arith}
use borrow.Author.Tests.{le-ltb}
use lib.ListN.{length}
use Rattle.rules.specs.Answers.{written_of}
use Rattle.rules.specs.Calls as calls
use Rattle.rules.specs.Calls.{deck_spreadsheet, spreadsheet_lines, reporting, into}
use Rattle.rules.specs.Hour.{Progress, reconstructed}
use Rattle.rules.specs.Reading.{reading}
use Rattle.rules.specs.Refusals.{Outcome, accepted, refuse}
use Rattle.rules.specs.Report.{ReportLine, hour_lines, report, report_texts}
use Rattle.rules.specs.Spreadsheet.{file_lines, file_text}
use Rattle.rules.specs.Writing.{valid}
use Rattle.rules.specs.declared.Hour.{Hour}
use Rattle.rules.specs.declared.Refusal.TheVariants.{Short}
use Rattle.roundtrip.specs.DeckRoundTrip.{accepted_is_valid}
use Rattle.file_roundtrip.specs.LinesAreShort.{lines_short}
use Rattle.print_report.specs.ReportFits.{report_fits}
use Rattle.write_spreadsheet.specs.FileFits.{most_file, file_fits}
use Rattle.barleyhood.proofs.deck_spreadsheet.Reads as deck_spreadsheet_call
use Rattle.barleyhood.proofs.report.Reads as report_call
use Rattle.barleyhood.proofs.spreadsheet.Reads as spreadsheet_call
use Rattle.barleyhood.proofs.spreadsheet_lines.Reads as spreadsheet_lines_call

into_enough : (size : ℕ) (bytes : List ℕ) → length bytes ≤ size → into size bytes ≡ accepted bytes
into_enough size bytes l = ap (λ (b : Bool). refuse b Short (accepted bytes)) (le-ltb size (length bytes) l)

counted : (o : Outcome (List ℕ)) (bytes : List ℕ) (r : (Result ℕ Refusal)) → o ≡ accepted bytes → r ≡ written_of o → r ≡ Ok (length bytes)
counted o bytes r e f = f ∙ ap written_of e

report_given : (s : List ℕ) (size : ℕ) → 131072 ≤ size → reporting s size ≡ accepted (report s)
unfolding calls.reporting
report_given s size l = into_enough size (report s) (omega (arith, report_fits s))

pub report_counted : (κ : _) (a : _) (r : (Result ℕ Refusal)) (x : _) → report_call.Post κ a r x → 131072 ≤ length a.1.0.now → r ≡ Ok (length (report a.0.now))
report_counted κ a r x p l = counted (reporting a.0.now (length a.1.0.now)) (report a.0.now) r (report_given a.0.now (length a.1.0.now) l) p.0

-- Spreadsheet files.

module _ (h : Hour) (p : Progress) (run : reconstructed h ≡ accepted p) where
  abbrev file : List ℕ
  file = file_text (hour_lines h p)

  record_given : (size : ℕ) → valid h ≡ true → most_file ≤ size → calls.spreadsheet h size ≡ accepted file
  unfolding calls.spreadsheet calls.file_for
  record_given size v l = rw (v, run) (into_enough size file (omega (arith, file_fits h p v run)))

  deck_given : (s : List ℕ) (size : ℕ) → reading s ≡ accepted h → most_file ≤ size → deck_spreadsheet s size ≡ accepted file
  unfolding calls.deck_spreadsheet calls.file_for
  deck_given s size e l = rw (e, run) (into_enough size file (omega (arith, file_fits h p (accepted_is_valid s h e) run)))

  pub record_counted : (κ : _) (a : _) (r : (Result ℕ Refusal)) (x : _) → spreadsheet_call.Post κ a r x → a.0 ≡ h → valid h ≡ true → most_file ≤ length a.1.0.now → r ≡ Ok (length file)
  record_counted κ a r x q same v l =
      let size = length a.1.0.now in
      counted (calls.spreadsheet a.0 size) file r (ap (λ (h : Hour). calls.spreadsheet h size) same ∙ record_given size v l) q.0

  pub deck_counted : (κ : _) (a : _) (r : (Result ℕ Refusal)) (x : _) → deck_spreadsheet_call.Post κ a r x → reading a.0.now ≡ accepted h → most_file ≤ length a.1.0.now
      → r ≡ Ok (length file)
  deck_counted κ a r x q e l = counted (deck_spreadsheet a.0.now (length a.1.0.now)) file r (deck_given a.0.now (length a.1.0.now) e l) q.0

lines_given : (s : List ℕ) (ls : List ReportLine) (size : ℕ) → file_lines s ≡ accepted ls → 2 * length s ≤ size → spreadsheet_lines s size ≡ accepted (report_texts ls)
unfolding calls.spreadsheet_lines
lines_given s ls size e l = rw e (into_enough size (report_texts ls) (omega (arith, lines_short s ls e)))

pub lines_counted : (ls : List ReportLine) (κ : _) (a : _) (r : (Result ℕ Refusal)) (x : _) → spreadsheet_lines_call.Post κ a r x → file_lines a.0.now ≡ accepted ls
    → 2 * length a.0.now ≤ length a.1.0.now → r ≡ Ok (length (report_texts ls))
lines_counted ls κ a r x q e l =
    counted (spreadsheet_lines a.0.now (length a.1.0.now)) (report_texts ls) r (lines_given a.0.now ls (length a.1.0.now) e l) q.0
