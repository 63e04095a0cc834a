-- The file that a call gave, lent to the call that reads files, comes back as the report of the same hour: the same answer and the same lent bytes as the
-- report's own call gives, whatever is lent. So nothing of a report is lost in its file, and no two reports have one file.
use Rattle.std.specs.Prelude.{Result, Ok}
use Rattle.rules.specs.declared.Refusal.{Refusal}
use mathlib.Core.List.{List, ◌++◌}
use mathlib.Core.Path.{◌≡◌, sym, ap, ◌∙◌}
use Prim.Native.Nat.{ℕ}
use lib.ListN.{length, take, drop}
use lib.Seq.{take-append_seam}
use Rattle.rules.specs.Answers.{written_of}
use Rattle.rules.specs.Calls as calls
use Rattle.rules.specs.Calls.{reporting, deck_spreadsheet, spreadsheet_lines, into, leaves}
use Rattle.rules.specs.Refusals.{Outcome, accepted}
use Rattle.rules.specs.Report.{report}
use Rattle.rules.specs.Writing.{deck_text}
use Rattle.laws.specs.Answers.{written_count}
use Rattle.hour_files.specs.HourFiles.{deck_file_prints}
use Rattle.hour_files.proofs.HourFiles.{hour_file_reports}
use Rattle.barleyhood.proofs.OneOutcome.{both}
use Rattle.barleyhood.proofs.deck_spreadsheet.Reads as deck_spreadsheet_call
use Rattle.barleyhood.proofs.report.Reads as report_call
use Rattle.barleyhood.proofs.spreadsheet.Reads as spreadsheet_call
use Rattle.barleyhood.proofs.spreadsheet_lines.Reads as spreadsheet_lines_call

-- what was written is what stands first in the lent bytes
first_bytes : (o : Outcome (List ℕ)) (n : ℕ) (entry exit : List ℕ) → Ok n ≡ written_of o → exit ≡ leaves o entry → o ≡ accepted (take n exit)
first_bytes o n entry exit e f =
    let w = written_count o n (sym e) in
    let bytes = w.0 in
    let left : exit ≡ bytes ++ drop (length bytes) entry = f ∙ ap (λ (o : Outcome (List ℕ)). leaves o entry) w.1 in
    w.1 ∙ ap accepted (sym (ap (λ (k : ℕ). take k exit) (sym w.2) ∙ ap (take (length bytes)) left ∙ take-append_seam bytes (drop (length bytes) entry)))

-- the call on a file that prints as the report of the deck s does, and the report's own call on s, with the same bytes lent
same_as_the_report : (s : List ℕ) (κ : _) (a : _) (r : (Result ℕ Refusal)) (x : _) (m : _) (b : _) (q : (Result ℕ Refusal)) (y : _) → spreadsheet_lines_call.Post κ a r x → report_call.Post m b q y
    → ((n : ℕ) → spreadsheet_lines a.0.now n ≡ into n (report s)) → b.0.now ≡ s → b.1.0.now ≡ a.1.0.now → ◌≡◌ {A = (Result ℕ Refusal) × List ℕ} (r, x.1.0.now) (q, y.1.0.now)
unfolding calls.reporting
same_as_the_report s κ a r x m b q y p t prints deck lent =
    let file = a.0.now in
    let out = a.1.0.now in
    let told : reporting b.0.now (length b.1.0.now) ≡ reporting s (length out) = ap (λ (s : List ℕ). reporting s (length b.1.0.now)) deck ∙ ap (λ (w : List ℕ). reporting s (length w)) lent in
    let k : spreadsheet_lines file (length out) ≡ reporting b.0.now (length b.1.0.now) = prints (length out) ∙ sym told in
    both
    (p.0 ∙ ap written_of k, p.1 ∙ ap (λ (o : Outcome (List ℕ)). leaves o out) k ∙ ap (leaves (reporting b.0.now (length b.1.0.now))) (sym lent))
    (t.0, t.1)

pub deck_file : (κ : _) (a : _) (n : ℕ) (x : _) → deck_spreadsheet_call.Post κ a (Ok n) x
    → (λs : _) (b : _) (r : (Result ℕ Refusal)) (y : _) → spreadsheet_lines_call.Post λs b r y → b.0.now ≡ take n x.1.0.now
    → (μs : _) (c : _) (q : (Result ℕ Refusal)) (z : _) → report_call.Post μs c q z → c.0.now ≡ a.0.now → c.1.0.now ≡ b.1.0.now
    → ◌≡◌ {A = (Result ℕ Refusal) × List ℕ} (r, y.1.0.now) (q, z.1.0.now)
deck_file κ a n x p λs b r y t file μs c q z v =
    let given = first_bytes (deck_spreadsheet a.0.now (length a.1.0.now)) n a.1.0.now x.1.0.now p.0 p.1 in
    same_as_the_report a.0.now λs b r y μs c q z t v
    (λ m. ap (λ (w : List ℕ). spreadsheet_lines w m) file ∙ deck_file_prints a.0.now (length a.1.0.now) (take n x.1.0.now) given m)

-- of a record: the report of the deck that is its writing
pub record_file : (κ : _) (a : _) (n : ℕ) (x : _) → spreadsheet_call.Post κ a (Ok n) x
    → (λs : _) (b : _) (r : (Result ℕ Refusal)) (y : _) → spreadsheet_lines_call.Post λs b r y → b.0.now ≡ take n x.1.0.now
    → (μs : _) (c : _) (q : (Result ℕ Refusal)) (z : _) → report_call.Post μs c q z → c.0.now ≡ deck_text a.0 → c.1.0.now ≡ b.1.0.now
    → ◌≡◌ {A = (Result ℕ Refusal) × List ℕ} (r, y.1.0.now) (q, z.1.0.now)
record_file κ a n x p λs b r y t file μs c q z v =
    let given = first_bytes (calls.spreadsheet a.0 (length a.1.0.now)) n a.1.0.now x.1.0.now p.0 p.1 in
    same_as_the_report (deck_text a.0) λs b r y μs c q z t v
    (λ m. ap (λ (w : List ℕ). spreadsheet_lines w m) file ∙ hour_file_reports a.0 (length a.1.0.now) (take n x.1.0.now) given m)
