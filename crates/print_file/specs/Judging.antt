-- What the first pass keeps of a file, and what it comes to.
use Rattle.std.specs.Prelude.{Result, Ok, Err}
use Rattle.std.specs.Prelude as std
use Rattle.std.specs.Prelude.{Some, None}
use Rattle.rules.specs.declared.Refusal.{Refusal}
use Rattle.std.specs.Prelude.{◌≡◌, Bool, ◌||◌, ℕ, suc, ◌+◌, ◌-◌, ◌≤◌, ◌<◌, leb, eqb, ℤ, length}
use Rattle.std.proofs.Math.Path.{refl}
use Rattle.std.proofs.Common.{ap, sym, ◌∙◌, arith}
use Rattle.std.proofs.Math.Bool.{true, false}
use mathlib.Core.List.{List, [], ◌∷◌, ◌++◌}
use Rattle.std.proofs.Math.Option.{Option, none, some}
use borrow.Author.Tests.{eq-eqb, ne_eqb, leb-true, leb-false, le-leb, lt-leb, le-ltb, lt-ltb}
use Rattle.rules.specs.Words.{when◌then◌else◌}
use Rattle.rules.specs.Answers.{verdict_of}
use Rattle.rules.specs.Refusals.{Outcome, accepted, refused, and_then}
use Rattle.rules.specs.Fields.{Field, got, malformed}
use Rattle.rules.specs.Report as report
use Rattle.rules.specs.Report.{ReportLine, hour, pair, internal, end, refusal, report_texts}
use Rattle.rules.specs.Spreadsheet as spreadsheet
use Rattle.rules.specs.Spreadsheet.{header, crlf, headed, houred, opened, ended, after, text_at, record_at, on_record, on_stage, records_from}
use Rattle.rules.specs.Calls as calls
use Rattle.rules.specs.Calls.{into, spreadsheet_lines}
use Rattle.rules.specs.declared.Refusal.TheVariants.{Short, FileRecord}
use Rattle.laws.specs.Choices.{both_true}
use Rattle.file_roundtrip.specs.Standing.{no_zero}
use Rattle.file_roundtrip.specs.Records.{record_stood}
use Rattle.file_roundtrip.specs.RecordsInTurn.{records_enough}
use Rattle.read_records.specs.Answers.{NonZero, line_of, field_of}
use Rattle.read_records.specs.declared.Record.{Record}
use Rattle.print_file.specs.declared.Stage.{Stage}
use Rattle.print_file.specs.declared.Stage.TheVariants.{Headed, Houred, Opened, Ended}
use Rattle.print_lines.specs.Lines.{printed, front_printed}
use Rattle.print_file.specs.RecordLines.{most_line, line_most}

-- a stage, as the rules number it
abbrev pub stage_of : Stage → ℕ
stage_of Headed = headed
stage_of Houred = houred
stage_of Opened = opened
stage_of Ended = ended

-- how far a file is after a record, where that may come
abbrev pub due : std.Option Stage → Option ℕ
due (Some stage) = some (stage_of stage)
due None = none

-- how far it is after what was found at a place, where a record that may come was
abbrev pub stage_after : ℕ → Field ReportLine → Option ℕ
stage_after stage (got l p) = after stage l
stage_after stage malformed = none

-- the lines from a place on, whose record is the k-th; "and one `end`", after which nothing stands
unfoldable pub lines_from : List ℕ → ℕ → ℕ → ℕ → Outcome (List ReportLine)
lines_from s stage k at =
    when eqb stage ended then (when eqb at (length s) then accepted [] else refused (FileRecord k)) else
    records_from (length s) s stage k at

-- what the call comes to, of the lines that are left, which must have fewer bytes than the room
abbrev pub judged : Outcome (List ReportLine) → ℕ → (Result (Unit {0}) Refusal)
judged (accepted ls) room = when leb room (length (report_texts ls)) then Err Short else (Ok tt)
judged (refused r) room = Err r

-- A turn.

pub going_on : (stage : Stage) → (stage ≡ Ended → ⊥) → eqb (stage_of stage) ended ≡ false
going_on Headed n = refl
going_on Houred n = refl
going_on Opened n = refl
going_on Ended n = absurd (n refl)

pub stage_due : (b : Bool) (x : Stage) → due (when b then Some x else None) ≡ (when b then some (stage_of x) else none)
stage_due true x = refl
stage_due false x = refl

-- of a record that is read
pub kind_after : (stage : ℕ) (r : std.Option (Record × ℕ)) (x : Record) (next : ℕ) → r ≡ Some (x, next)
    → stage_after stage (got (line_of x) next) ≡ stage_after stage (field_of r)
kind_after stage r x next e = ap (λ (y : std.Option (Record × ℕ)). stage_after stage (field_of y)) (sym e)

-- the place after a record
pub got_next : (x : Record) (next : ℕ) (l : ReportLine) (p : ℕ) → field_of (Some (x, next)) ≡ got l p → next ≡ p
got_next x next l p e = let there : ◌≡◌ {A = Field ReportLine} (got (line_of x) next) (got l p) = e in cc

-- what is left of a room, and whether more fits
room_less : (room a n : ℕ) → leb room (a + n) ≡ leb (room - a) n
room_less room a n = go (leb room (a + n)) refl
  where
    go : (b : Bool) → leb room (a + n) ≡ b → b ≡ leb (room - a) n
    go true e = sym (le-leb (room - a) n (omega (arith, leb-true room (a + n) e)))
    go false e = sym (lt-leb (room - a) n (omega (arith, leb-false room (a + n) e)))

line_judged : (l : ReportLine) (o : Outcome (List ReportLine)) (room : ℕ) → judged (and_then o λ ls. accepted (l ∷ ls)) room ≡ judged o (room - length (printed l []))
unfolding report.report_texts
line_judged l (accepted ls) room =
    let longer : length (printed l (report_texts ls)) ≡ length (printed l []) + length (report_texts ls) = (front_printed l).longer (report_texts ls) in
    rw (longer, room_less room (length (printed l [])) (length (report_texts ls)))
line_judged l (refused r) room = refl

module _ (s : List ℕ) (stage k at : ℕ) (going : eqb stage ended ≡ false) where
  turn : lines_from s stage k at ≡ on_record (record_at s at) k λ l p. on_stage s k l p (λ further. records_from (length s) s further (k + 1) p) (after stage l)
  unfolding lines_from spreadsheet.records_from
  turn = rw going (records_enough s (length s) (suc (length s)) stage k at (omega arith) (omega arith))

  -- a record that is not of its form or may not come
  pub not_due_lem : stage_after stage (record_at s at) ≡ none → lines_from s stage k at ≡ refused (FileRecord k)
  not_due_lem e = turn ∙ go (record_at s at) e
    where
      go : (x : Field ReportLine) → stage_after stage x ≡ none
          → on_record x k (λ l p. on_stage s k l p (λ further. records_from (length s) s further (k + 1) p) (after stage l)) ≡ refused (FileRecord k)
      go (got l p) e = rw e
      go malformed e = refl

  -- the lines after a line that comes
  lines_further : (l : ReportLine) (p further : ℕ) → record_at s at ≡ got l p → after stage l ≡ some further
      → lines_from s stage k at ≡ and_then (lines_from s further (k + 1) p) λ ls. accepted (l ∷ ls)
  unfolding lines_from
  lines_further l p further e f = turn ∙ rw (e, f) (go (eqb further ended) (eqb p (length s)))
    where
      go : (b c : Bool)
          → (when b then (when c then accepted (l ∷ []) else refused (FileRecord (k + 1))) else and_then (records_from (length s) s further (k + 1) p) λ ls. accepted (l ∷ ls))
          ≡ and_then (when b then (when c then accepted [] else refused (FileRecord (k + 1))) else records_from (length s) s further (k + 1) p) (λ ls. accepted (l ∷ ls))
      go true true = refl
      go true false = refl
      go false c = refl

  -- a record that is due, the lines after it, and what is left of the room
  pub record Turn (x : Record) (next further : ℕ) : Type 0 where
    pub later : at < next
    pub within : next ≤ length s
    pub most : length (printed (line_of x) []) ≤ most_line
    pub rest : (room : ℕ) → judged (lines_from s stage k at) room ≡ judged (lines_from s further (k + 1) next) (room - length (printed (line_of x) []))

  pub due_turn : (x : Record) (next further : ℕ) → field_of (Some (x, next)) ≡ record_at s at → some further ≡ stage_after stage (field_of (Some (x, next))) → Turn x next further
  due_turn x next further e f =
      let t = record_stood s at (line_of x) next (sym e) in
      record {
        later = t.later;
        within = t.within;
        most = line_most (line_of x) t.fits;
        rest = λ room.
            ap (λ (o : Outcome (List ReportLine)). judged o room) (lines_further (line_of x) next further (sym e) (sym f))
            ∙ line_judged (line_of x) (lines_from s further (k + 1) next) room;
      }

-- The same by what the reader answers.

module _ (s : List ℕ) (stage : Stage) (k at room : ℕ) (going : stage ≡ Ended → ⊥) (r : std.Option (Record × ℕ)) (e : field_of r ≡ record_at s at) where
  refused_there : stage_after (stage_of stage) (field_of r) ≡ none → judged (lines_from s (stage_of stage) k at) room ≡ Err (FileRecord k)
  refused_there f =
      ap (λ (o : Outcome (List ReportLine)). judged o room) (not_due_lem s (stage_of stage) k at (going_on stage going) (ap (λ (y : Field ReportLine). stage_after (stage_of stage) y) (sym e) ∙ f))

  -- no record
  pub judged_none : r ≡ None → judged (lines_from s (stage_of stage) k at) room ≡ Err (FileRecord k)
  judged_none is = refused_there (ap (λ (y : std.Option (Record × ℕ)). stage_after (stage_of stage) (field_of y)) is)

  module _ (x : Record) (p : ℕ) (is : r ≡ Some (x, p)) where
    there : record_at s at ≡ got (line_of x) p
    there = sym e ∙ ap field_of is

    -- one that may not come
    pub judged_not_due : due None ≡ after (stage_of stage) (line_of x) → judged (lines_from s (stage_of stage) k at) room ≡ Err (FileRecord k)
    judged_not_due f = refused_there (ap (λ (y : std.Option (Record × ℕ)). stage_after (stage_of stage) (field_of y)) is ∙ sym f)

    -- where the next one starts, how long its line is, and the lines after it
    pub starts_later : at < p
    starts_later = (record_stood s at (line_of x) p there).later

    pub stays_within : p ≤ length s
    stays_within = (record_stood s at (line_of x) p there).within

    pub has_most : length (printed (line_of x) []) ≤ most_line
    has_most = line_most (line_of x) (record_stood s at (line_of x) p there).fits

    pub judged_further : (further : Stage) → due (Some further) ≡ after (stage_of stage) (line_of x)
        → judged (lines_from s (stage_of stage) k at) room ≡ judged (lines_from s (stage_of further) (k + 1) p) (room - length (printed (line_of x) []))
    judged_further further f = (due_turn s (stage_of stage) k at (going_on stage going) x p (stage_of further) (sym there) f).rest room

-- The end.

module _ (s : List ℕ) (k at room : ℕ) where
  pub more_judged : (at ≡ length s → ⊥) → judged (lines_from s ended k at) room ≡ Err (FileRecord k)
  unfolding lines_from
  more_judged n = rw (ne_eqb at (length s) n)

  pub short_judged : at ≡ length s → room ≡ 0 → judged (lines_from s ended k at) room ≡ Err Short
  unfolding lines_from report.report_texts
  short_judged e f = rw (eq-eqb at (length s) e, f)

  pub whole_judged : at ≡ length s → (room ≡ 0 → ⊥) → judged (lines_from s ended k at) room ≡ (Ok tt)
  unfolding lines_from report.report_texts
  whole_judged e f = rw (eq-eqb at (length s) e, lt-leb room 0 (omega arith))

-- The whole file.

non_zero : (w : List ℕ) → no_zero w ≡ true → NonZero w
non_zero [] e = tt
non_zero (b ∷ t) e =
    let p = both_true (leb 1 b) (no_zero t) e in
    (omega (arith, leb-true 1 b p.0), non_zero t p.1)

pub header_non_zero : NonZero (header ++ crlf [])
header_non_zero = non_zero (header ++ crlf []) refl

fits_judged : (bytes : List ℕ) (size : ℕ) → (when leb (size + 1) (length bytes) then Err Short else (Ok tt)) ≡ verdict_of (into size bytes)
fits_judged bytes size = go (leb (size + 1) (length bytes)) refl
  where
    go : (b : Bool) → leb (size + 1) (length bytes) ≡ b → (when b then Err Short else (Ok tt)) ≡ verdict_of (into size bytes)
    go true e = rw (lt-ltb size (length bytes) (omega (arith, leb-true (size + 1) (length bytes) e)))
    go false e = rw (le-ltb size (length bytes) (omega (arith, leb-false (size + 1) (length bytes) e)))

lines_judged : (o : Outcome (List ReportLine)) (size : ℕ) → judged o (size + 1) ≡ verdict_of (and_then o λ ls. into size (report_texts ls))
lines_judged (accepted ls) size = fits_judged (report_texts ls) size
lines_judged (refused r) size = refl

module _ (s : List ℕ) (size : ℕ) where
  -- no header
  pub no_header : text_at s 0 (header ++ crlf []) ≡ malformed → Err (FileRecord 1) ≡ verdict_of (spreadsheet_lines s size)
  unfolding spreadsheet.file_lines calls.spreadsheet_lines
  no_header e = rw e

  pub header_passed : (at : ℕ) → text_at s 0 (header ++ crlf []) ≡ got tt at → judged (lines_from s headed 2 at) (size + 1) ≡ verdict_of (spreadsheet_lines s size)
  unfolding lines_from spreadsheet.file_lines calls.spreadsheet_lines
  header_passed at e = lines_judged (records_from (length s) s headed 2 at) size ∙ rw e
