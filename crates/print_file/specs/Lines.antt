-- The second pass: the lines of a file that is accepted, one after another.
use Rattle.std.specs.Prelude.{Result, Ok, Err, Option, Some, None}
use Rattle.std.specs.Prelude.{◌≡◌, refl, Bool, false, ℕ, ◌≤◌, ◌<◌, ltb}
use Rattle.std.proofs.Math.Path.{ap}
use Rattle.std.proofs.Common.{sym, ◌∙◌, arith}
use Rattle.std.proofs.Math.Bool.{true}
use mathlib.Core.List.{List, [], ◌∷◌, ◌++◌}
use Rattle.std.proofs.Math.ListN.{length, drop, length-drop}
use borrow.Author.Tests.{ltb-false, le-ltb}
use Rattle.rules.specs.Answers.{verdict_of, written_of}
use Rattle.rules.specs.Refusals.{Outcome, accepted, refused, refuse, and_then}
use Rattle.rules.specs.Fields.{Field, got, malformed}
use Rattle.rules.specs.Report as report
use Rattle.rules.specs.Report.{ReportLine, report_texts}
use Rattle.rules.specs.Spreadsheet as spreadsheet
use Rattle.rules.specs.Spreadsheet.{record_texts, headed, in_order, line_fits, all_lines_fit, record_at, file_lines}
use Rattle.rules.specs.Calls as calls
use Rattle.rules.specs.Calls.{into, spreadsheet_lines, leaves}
use Rattle.rules.specs.declared.Refusal.{Refusal}
use Rattle.rules.specs.declared.Refusal.TheVariants.{Short}
use Rattle.laws.specs.Choices.{both_true, malformed_not_got}
use Rattle.file_roundtrip.specs.Records.{record_stood}
use Rattle.file_roundtrip.proofs.Records.{record_read}
use Rattle.file_roundtrip.specs.FileRoundTrip.{file_stood}
use Rattle.read_records.specs.Answers.{line_of, field_of}
use Rattle.read_records.specs.declared.Record.{Record}
use Rattle.write_fields.specs.Inked.{Text, Room, Inked, inked_nothing, inked_place, inked_first, inked_then, room_as, room_first, room_after}
use Rattle.print_lines.specs.Lines.{printed, front_printed}

-- a file that is accepted, and room for its lines
pub record Fitting (s : List ℕ) (size : ℕ) : Type 0 where
  pub lines : List ReportLine
  pub is : file_lines s ≡ accepted lines
  pub fits : length (report_texts lines) ≤ size

refused_not : {A : Type 0} (r : Refusal) → ◌≡◌ {A = Result (Unit {0}) Refusal} (Err r) (Ok tt) → A
refused_not r e = cc

pub accepted_fits : (s : List ℕ) (size : ℕ) → verdict_of (spreadsheet_lines s size) ≡ (Ok tt) → Fitting s size
unfolding calls.spreadsheet_lines
accepted_fits s size v = go (file_lines s) refl v
  where
    go : (o : Outcome (List ReportLine)) → file_lines s ≡ o → verdict_of (and_then o λ ls. into size (report_texts ls)) ≡ (Ok tt) → Fitting s size
    go (refused r) e v = refused_not r v
    go (accepted ls) e v = test (ltb size (length (report_texts ls))) refl v
      where
        test : (b : Bool) → ltb size (length (report_texts ls)) ≡ b → verdict_of (refuse b Short (accepted (report_texts ls))) ≡ (Ok tt) → Fitting s size
        test true b v = refused_not Short v
        test false b v = record { lines = ls; is = e; fits = omega (arith, ltb-false size (length (report_texts ls)) b) }

pub refused_told : (o : Outcome (List ℕ)) (r : Refusal) (out : List ℕ) → verdict_of o ≡ Err r → (Err r ≡ written_of o) × (out ≡ leaves o out)
refused_told (accepted w) r out e = refused_not r (sym e)
refused_told (refused x) r out e = let k : x ≡ r = cc in (ap Err (sym k), refl)

module _ (s before : List ℕ) where
  -- the lines up to a place of the file stand in the buffer; the others are still to come
  pub record Begun (p : ℕ) (buf : List ℕ) (q : ℕ) : Type 0 where
    pub file : Fitting s (length before)
    pub left : List ReportLine
    pub fit : all_lines_fit left ≡ true
    pub stand : drop p s ≡ record_texts left
    pub text : Text
    pub inked : Inked before 0 buf q text
    pub same : text (report_texts left) ≡ report_texts file.lines

  pub begin : Fitting s (length before) → Begun 41 before 0
  unfolding spreadsheet.has_file spreadsheet.file_text
  begin f =
      let w = file_stood s f.lines f.is in
      record {
        file = f;
        left = f.lines;
        fit = (both_true (in_order headed f.lines) (all_lines_fit f.lines) w.1).1;
        stand = ap (drop 41) w.0;
        text = λ rest. rest;
        inked = inked_nothing before 0;
        same = refl;
      }

  module _ (p : ℕ) (buf : List ℕ) (q : ℕ) (b : Begun p buf q) where
    abbrev whole : List ℕ
    whole = report_texts b.file.lines

    -- what is to come has room
    room_left : (w : List ℕ) → b.text w ≡ whole → Room before 0 (b.text w)
    room_left w same = room_as same (record { fits = omega (arith, b.file.fits) })

    -- a record that the reader finds there: where the next one starts, room for its line, and what comes after it
    pub record Next (l : ReportLine) (next : ℕ) : Type 0 where
      pub later : p < next
      pub within : next ≤ length s
      pub room : Room buf q (printed l [])
      pub further : (after : List ℕ) (r : ℕ) → Inked buf q after r (printed l) → Begun next after r

    next_read : (l : ReportLine) (ms : List ReportLine) (next : ℕ) → all_lines_fit ms ≡ true → b.text (printed l (report_texts ms)) ≡ whole
        → p < next → next ≤ length s → drop next s ≡ record_texts ms → Next l next
    next_read l ms next fit same later within stand =
        record {
          later = later;
          within = within;
          room = room_first (front_printed l) (room_after b.inked (room_left (printed l (report_texts ms)) same));
          further = λ after r y.
              record {
                file = b.file;
                left = ms;
                fit = fit;
                stand = stand;
                text = λ rest. b.text (printed l rest);
                inked = inked_then b.inked y;
                same = same;
              };
        }

    next_line : (l : ReportLine) (next : ℕ) → record_at s p ≡ got l next → Next l next
    unfolding spreadsheet.record_texts spreadsheet.all_lines_fit report.report_texts
    next_line l next e = go b.left b.fit b.stand b.same
      where
        go : (left : List ReportLine) → all_lines_fit left ≡ true → drop p s ≡ record_texts left → b.text (report_texts left) ≡ whole → Next l next
        go [] fit stand same = let stood = record_stood s p l next e in absurd (omega (arith, length-drop p s, ap length stand, stood.later, stood.within))
        go (m ∷ ms) fit stand same =
            let both = both_true (line_fits m) (all_lines_fit ms) fit in
            let read = record_read m s (record_texts ms) p both.0 stand in
            let stood = record_stood s p l next e in
            let there : ◌≡◌ {A = Field ReportLine} (got m read.next) (got l next) = sym read.is ∙ e in
            let n : read.next ≡ next = cc in
            let line : m ≡ l = cc in
            next_read l ms next both.1 (ap (λ (y : ReportLine). b.text (printed y (report_texts ms))) (sym line) ∙ same) stood.later stood.within (ap (λ (n : ℕ). drop n s) (sym n) ∙ read.past)

    -- before the file's end there is one
    pub record NextRead (r : Option (Record × ℕ)) : Type 0 where
      pub read : Record
      pub next : ℕ
      pub is : r ≡ Some (read, next)
      pub line : Next (line_of read) next

    pub next_line_lem : (r : Option (Record × ℕ)) → p < length s → field_of r ≡ record_at s p → NextRead r
    unfolding spreadsheet.record_texts spreadsheet.all_lines_fit
    next_line_lem (Some (x, next)) l e = record { read = x; next = next; is = refl; line = next_line (line_of x) next (sym e) }
    next_line_lem None l e = go b.left b.fit b.stand
      where
        go : (left : List ReportLine) → all_lines_fit left ≡ true → drop p s ≡ record_texts left → NextRead None
        go [] fit stand = absurd (omega (arith, length-drop p s, ap length stand))
        go (m ∷ ms) fit stand =
            let read = record_read m s (record_texts ms) p (both_true (line_fits m) (all_lines_fit ms) fit).0 stand in
            malformed_not_got m read.next (e ∙ read.is)

    module _ (r : Option (Record × ℕ)) (e : field_of r ≡ record_at s p) where
      module _ (x : Record) (next : ℕ) (is : r ≡ Some (x, next)) where
        found : Next (line_of x) next
        found = next_line (line_of x) next (sym e ∙ ap field_of is)

        pub starts_later : p < next
        starts_later = found.later

        pub stays_within : next ≤ length s
        stays_within = found.within

        pub line_room : Room buf q (printed (line_of x) [])
        line_room = found.room

        pub begun_further : (after : List ℕ) (to : ℕ) → Inked buf q after to (printed (line_of x)) → Begun next after to
        begun_further after to y = found.further after to y

    -- at the file's end all stand
    whole_told : b.text [] ≡ whole → (Ok q ≡ written_of (spreadsheet_lines s (length before))) × (buf ≡ leaves (spreadsheet_lines s (length before)) before)
    unfolding calls.spreadsheet_lines
    whole_told same =
        let n : q ≡ length whole = omega (arith, inked_place b.inked, ap length same) in
        let bytes : buf ≡ whole ++ drop (length whole) before = inked_first b.inked (room_left [] same) ∙ ap (λ (w : List ℕ). w ++ drop (length w) before) same in
        rw (b.file.is, le-ltb (length before) (length whole) b.file.fits) (ap Ok n, bytes)

    -- where no record starts there, none is left
    none_left : record_at s p ≡ malformed → (Ok q ≡ written_of (spreadsheet_lines s (length before))) × (buf ≡ leaves (spreadsheet_lines s (length before)) before)
    unfolding spreadsheet.record_texts spreadsheet.all_lines_fit report.report_texts
    none_left e = go b.left b.fit b.stand b.same
      where
        go : (left : List ReportLine) → all_lines_fit left ≡ true → drop p s ≡ record_texts left → b.text (report_texts left) ≡ whole
            → (Ok q ≡ written_of (spreadsheet_lines s (length before))) × (buf ≡ leaves (spreadsheet_lines s (length before)) before)
        go [] fit stand same = whole_told same
        go (m ∷ ms) fit stand same =
            let read = record_read m s (record_texts ms) p (both_true (line_fits m) (all_lines_fit ms) fit).0 stand in
            malformed_not_got m read.next (sym e ∙ read.is)

    -- as at the file's end
    pub all_lines : length s ≤ p → (Ok q ≡ written_of (spreadsheet_lines s (length before))) × (buf ≡ leaves (spreadsheet_lines s (length before)) before)
    all_lines l = none_left (go (record_at s p) refl)
      where
        go : (x : Field ReportLine) → record_at s p ≡ x → x ≡ malformed
        go (got m next) e = let t = record_stood s p m next e in absurd (omega (arith, t.later, t.within))
        go malformed e = refl

    module _ (r : Option (Record × ℕ)) (e : field_of r ≡ record_at s p) (is : r ≡ None) where
      pub all_told : Ok q ≡ written_of (spreadsheet_lines s (length before))
      all_told = (none_left (sym e ∙ ap field_of is)).0

      pub all_written : buf ≡ leaves (spreadsheet_lines s (length before)) before
      all_written = (none_left (sym e ∙ ap field_of is)).1
