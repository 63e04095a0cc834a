-- The file of an hour, and that the rows that are written are it.
use Rattle.std.specs.Prelude.{◌≡◌, refl, ℤ, length, get_or, drop}
use Rattle.std.proofs.Math.Path.{ap, sym}
use Rattle.std.proofs.Common.{◌∙◌, arith, leb-true}
use mathlib.Core.List.{List, [], ◌∷◌, ◌++◌}
use Prim.Native.Nat.{ℕ, ◌+◌, ◌*◌, ◌≤◌, ◌<◌}
use Rattle.std.proofs.lemmas.List.{length-replicate}
use Rattle.rules.specs.Sequences.{no_label}
use Rattle.rules.specs.Refusals.{Outcome, accepted, refused}
use Rattle.rules.specs.Fields.{Chars}
use Rattle.rules.specs.Record.{chars, label_of, source_at, delivery_at}
use Rattle.rules.specs.Hour.{pair_width, keys, key_at, Progress, reconstructed}
use Rattle.rules.specs.Reading.{generated, delivered}
use Rattle.rules.specs.Report.{ReportLine, hour, end, hour_amounts, header_line, pair_amounts, open_amounts, pair_line, open_line, hour_lines}
use Rattle.rules.specs.Spreadsheet as sheet
use Rattle.rules.specs.Spreadsheet.{record_text, record_texts, file_text}
use Rattle.rules.specs.declared.Hour.{Hour}
use Rattle.rules.specs.declared.InternalSequence.{InternalSequence}
use Rattle.rules.specs.declared.Key.{Key}
use Rattle.rules.specs.declared.Label.{Label}
use Rattle.roundtrip.specs.Labels.{label_from_lem}
use Rattle.record.specs.Fill.{fill_to_made}
use Rattle.write_fields.specs.Inked.{Text, Room, Inked, Front, up_to, front_up_to}
use Rattle.write_records.specs.Records.{head_text, delivery_text, header_text, delivery_made, front_record, front_header}
use Rattle.hour_lines.specs.LinesText as lines_texts
use Rattle.hour_lines.specs.LinesText.{lines_text, lines_made}
use Rattle.hour_lines.specs.HandedOver.{whole_room, whole_written}
use Rattle.hour_lines.specs.HourLabels.{hour_labels}
use Rattle.hour_lines.specs.HourCells.{Answered, given, pairs_are, opens_are}
use Rattle.write_spreadsheet.specs.Rows.{ShortLabels, source_labels, delivery_labels, head_at, pair_at, row_at, open_at, front_open_at, front_row_at}

-- the file of an hour whose reconstruction came to this: none where that was refused
abbrev pub file_of : Hour → Outcome Progress → List ℕ
file_of h (accepted p) = file_text (hour_lines h p)
file_of h (refused r) = []

unfoldable pub hour_file : Hour → List ℕ
hour_file h = file_of h (reconstructed h)

pub file_run : (h : Hour) (p : Progress) → reconstructed h ≡ accepted p → hour_file h ≡ file_text (hour_lines h p)
unfolding hour_file
file_run h p e = rw e

-- records one after another
pub records_all : (ls : List ReportLine) → lines_text record_text ls [] ≡ record_texts ls
unfolding lines_texts.lines_text sheet.record_texts
records_all [] = refl
records_all (l ∷ ls) = ap (record_text l) (records_all ls)

-- lists that hold the labels of an hour
pub record Labelled (h : Hour) (sources deliveries : List Label) : Type 0 where
  pub source : (i : ℕ) → i < h.nsources → get_or sources i no_label ≡ (source_at h i).label
  pub delivery : (j : ℕ) → j < h.ndeliveries → get_or deliveries j no_label ≡ (delivery_at h j).label

-- a pair's record of what is the same
pair_same : {d e : Chars} {m n : InternalSequence} {s t : Chars} {ys zs : List ℤ} → d ≡ e → m ≡ n → s ≡ t → ys ≡ zs → (rest : List ℕ) → delivery_text (head_text d m []) s ys rest ≡ delivery_text (head_text e n []) t zs rest
pair_same a b c d rest = rw (a, b, c, d)

-- What is written, before any rest.

abbrev pub rows_text : Hour → List Label → List Label → List Key → List ℤ → Text
rows_text h sources deliveries ks cells = up_to (row_at sources h.nsources deliveries ks cells) h.ndeliveries

abbrev pub left_text : Hour → List Label → List ℤ → Text
left_text h sources cells = up_to (open_at sources cells (h.ndeliveries * (h.nsources * pair_width))) h.nsources

abbrev pub written_text : Hour → List Label → List Label → List Key → List ℤ → Text
written_text h sources deliveries ks cells rest = header_text (record_text (header_line h) (rows_text h sources deliveries ks cells (left_text h sources cells (record_text end rest))))

pub front_rows : (h : Hour) (sources deliveries : List Label) (ks : List Key) (cells : List ℤ) → Front (rows_text h sources deliveries ks cells)
front_rows h sources deliveries ks cells =
    front_up_to (row_at sources h.nsources deliveries ks cells) (λ j. front_row_at sources h.nsources deliveries ks cells j) h.ndeliveries

pub front_left : (h : Hour) (sources : List Label) (cells : List ℤ) → Front (left_text h sources cells)
front_left h sources cells =
    let base = h.ndeliveries * (h.nsources * pair_width) in
    front_up_to (open_at sources cells base) (λ i. front_open_at sources cells base i) h.nsources

-- the labels of an hour that was answered, as they are gathered
pub labelled : {h : Hour} {ks : List Key} {cells : List ℤ} → Answered h ks cells → {sources deliveries : List Label}
    → sources ≡ source_labels h h.nsources → deliveries ≡ delivery_labels h h.ndeliveries → Labelled h sources deliveries
labelled {h} a e f =
    let size = length-replicate 32 (label_of []) in
    let g = given a in
    record {
      source = λ i l. rw e (fill_to_made (λ i. (source_at h i).label) _ h.nsources i no_label l (omega (arith, size, g.sources.few)));
      delivery = λ j l. rw f (fill_to_made (λ j. (delivery_at h j).label) _ h.ndeliveries j no_label l (omega (arith, size, g.deliveries.few)));
    }

module _ {h : Hour} {ks : List Key} {cells : List ℤ} (a : Answered h ks cells) {sources deliveries : List Label} (named : Labelled h sources deliveries) where
  abbrev p : Progress
  p = a.progress

  pub deliveries_short : ShortLabels deliveries h.ndeliveries
  deliveries_short =
      record { short = λ j l. omega (arith, ap (λ (x : Label). length (chars x)) (named.delivery j l), leb-true (length (chars (delivery_at h j).label)) 16 (label_from_lem _ ((hour_labels h a.valid).deliveries j l)).few) }

  pair_written : (j i : ℕ) → j < h.ndeliveries → i < h.nsources → (rest : List ℕ)
      → pair_at sources cells (j * (h.nsources * pair_width)) (head_at deliveries ks j) i rest ≡ record_text (pair_line h p j i) rest
  pair_written j i l m rest =
      pair_same (ap chars (named.delivery j l)) (a.numbered j l) (ap chars (named.source i m)) (ap pair_amounts (pairs_are a j i l m)) rest
      ∙ delivery_made (chars (delivery_at h j).label) (key_at (keys h) j).number (chars (source_at h i).label) (pair_amounts (p.cells j i)) rest

  open_written : (i : ℕ) → i < h.nsources → (rest : List ℕ) → open_at sources cells (h.ndeliveries * (h.nsources * pair_width)) i rest ≡ record_text (open_line h p i) rest
  open_written i m rest = let s = ap chars (named.source i m) in let zs = ap open_amounts (opens_are a i m) in rw (s, zs)

  pub file_is : written_text h sources deliveries ks cells [] ≡ hour_file h
  unfolding sheet.file_text
  file_is =
      let pairs : ℕ → ℕ → Text = λ j. pair_at sources cells (j * (h.nsources * pair_width)) (head_at deliveries ks j) in
      let opens = open_at sources cells (h.ndeliveries * (h.nsources * pair_width)) in
      ap header_text (lines_made record_text h p pairs opens pair_written open_written [] ∙ records_all (hour_lines h p)) ∙ sym (file_run h p a.run)

  -- its length, part by part
  pub file_length : length (header_text []) + length (record_text (header_line h) []) + length (rows_text h sources deliveries ks cells []) + length (left_text h sources cells []) + length (record_text end []) ≡ length (hour_file h)
  file_length =
      let last = record_text end [] in
      let opens = left_text h sources cells last in
      let rows = rows_text h sources deliveries ks cells opens in
      let first = record_text (header_line h) rows in
      omega (
        arith,
        ap length file_is,
        front_header.longer first,
        (front_record (header_line h)).longer rows,
        (front_rows h sources deliveries ks cells).longer opens,
        (front_left h sources cells).longer last,
      )

  -- it has room from 0 on where the file fits, and written there it is the file
  module _ (buf : List ℕ) (fits : length (hour_file h) ≤ length buf) where
    pub file_room : Room buf 0 (written_text h sources deliveries ks cells [])
    file_room = whole_room (written_text h sources deliveries ks cells) (hour_file h) buf file_is fits

    pub file_written : (b : List ℕ) (n : ℕ) → Inked buf 0 b n (written_text h sources deliveries ks cells) → (n ≡ length (hour_file h)) × (b ≡ hour_file h ++ drop (length (hour_file h)) buf)
    file_written b n e = whole_written (written_text h sources deliveries ks cells) (hour_file h) buf file_is fits b n e

-- the hour's own record of amounts that were made
pub hour_made : (h : Hour) (zs : List ℤ) → zs ≡ hour_amounts (generated h) h.losses (delivered h) → (rest : List ℕ) → record_text (hour zs) rest ≡ record_text (header_line h) rest
hour_made h zs e rest = ap (λ (zs : List ℤ). record_text (hour zs) rest) e
