-- What the writer of an hour's report is given, and that the rows it writes are the report.
use Rattle.std.specs.Prelude.{◌≡◌, refl, ℤ, pos, length, get_or, Ok}
use Rattle.std.proofs.Common.{ap, ◌∙◌, arith, lt-ltb}
use mathlib.Core.List.{List, [], ◌∷◌}
use Prim.Native.Nat.{ℕ, ◌+◌, ◌*◌, ◌<◌}
use Rattle.rules.specs.Words.{text}
use Rattle.rules.specs.Refusals.{accepted}
use Rattle.rules.specs.Group.{no_running, open_amount}
use Rattle.rules.specs.Fields.{escape}
use Rattle.rules.specs.Record.{chars, source_at, delivery_at}
use Rattle.rules.specs.Hour.{pair_width, keys, key_at, Progress}
use Rattle.rules.specs.Reading.{generated, delivered, reading}
use Rattle.rules.specs.Report as reports
use Rattle.rules.specs.Report.{ReportLine, hour, end, hour_amounts, header_line, pair_amounts, open_amounts, pair_line, open_line, hour_lines, report_texts, report}
use Rattle.rules.specs.declared.Hour.{Hour}
use Rattle.rules.specs.declared.InternalSequence.{InternalSequence}
use Rattle.rules.specs.declared.Key.{Key}
use Rattle.deck.specs.Answers.{Scanned}
use Rattle.deck.specs.declared.ScannedDeck.{ScannedDeck}
use Rattle.write_fields.specs.Inked.{Text, Front, up_to, front_up_to}
use Rattle.print_lines.specs.Lines.{head_text, line_text, printed, pair_line_lem, open_line_lem, front_printed}
use Rattle.hour_lines.specs.LinesText as lines_texts
use Rattle.hour_lines.specs.LinesText.{lines_text, lines_made}
use Rattle.hour_lines.specs.HourLabels.{label_short, hour_labels}
use Rattle.hour_lines.specs.HourCells as hour_cells
use Rattle.hour_lines.specs.HourCells.{pairs_are, opens_are}
use Rattle.print_report.specs.Rows.{Held, ShortLabels, part_at, head_at, pair_at, row_at, open_at, front_row_at, front_opens, line_same}

-- a deck that was scanned, and its hour's keys and cells
pub record Answered (deck : List ℕ) (x : ScannedDeck) (ks : List Key) (cells : List ℤ) : Type 0 where
  pub read : reading deck ≡ accepted x.hour
  pub scanned : Scanned deck (accepted x.hour) (Ok x)
  pub hour : hour_cells.Answered x.hour ks cells

-- the rows, before any rest
abbrev pub rows_text : List ℕ → ScannedDeck → List Key → List ℤ → Text
rows_text deck x ks cells = up_to (row_at deck x.sources x.hour.nsources x.deliveries ks cells) x.hour.ndeliveries

abbrev pub left_text : List ℕ → ScannedDeck → List ℤ → Text
left_text deck x cells = up_to (open_at deck x.sources cells (x.hour.ndeliveries * (x.hour.nsources * pair_width))) x.hour.nsources

abbrev pub written_text : List ℕ → ScannedDeck → List Key → List ℤ → Text
written_text deck x ks cells rest = printed (header_line x.hour) (rows_text deck x ks cells (left_text deck x cells (printed end rest)))

pub front_rows : (deck : List ℕ) (x : ScannedDeck) (ks : List Key) (cells : List ℤ) → Front (rows_text deck x ks cells)
front_rows deck x ks cells =
    let n = x.hour.nsources in
    front_up_to (row_at deck x.sources n x.deliveries ks cells) (λ j. front_row_at deck x.sources n x.deliveries ks cells j) x.hour.ndeliveries

pub front_left : (deck : List ℕ) (x : ScannedDeck) (cells : List ℤ) → Front (left_text deck x cells)
front_left deck x cells = front_opens deck x.sources cells (x.hour.ndeliveries * (x.hour.nsources * pair_width)) x.hour.nsources

-- lines one after another are the report's text
pub printed_all : (ls : List ReportLine) → lines_text printed ls [] ≡ report_texts ls
unfolding lines_texts.lines_text reports.report_texts
printed_all [] = refl
printed_all (l ∷ ls) = ap (printed l) (printed_all ls)

-- the header of sums that were made
pub header_same : (h : Hour) (zs : List ℤ) (g d : ℕ) → zs ≡ hour_amounts g h.losses d → g ≡ generated h → d ≡ delivered h → (rest : List ℕ) → printed (hour zs) rest ≡ printed (header_line h) rest
header_same h zs g d c e f rest = rw (c, e, f)

-- a pair's line of what is the same
pair_same : {d e : List ℕ} {m n : InternalSequence} {s t : List ℕ} {ys zs : List ℤ} → d ≡ e → m ≡ n → s ≡ t → ys ≡ zs → (rest : List ℕ) → line_text (head_text d m []) s ys rest ≡ line_text (head_text e n []) t zs rest
pair_same a b c d rest = rw (a, b, c, d)

module _ {deck : List ℕ} {x : ScannedDeck} {ks : List Key} {cells : List ℤ} (a : Answered deck x ks cells) where
  abbrev h : Hour
  h = x.hour

  abbrev p : Progress
  p = a.hour.progress

  pub sources_held : Held deck x.sources
  sources_held = record { each = λ i. ((a.scanned.sources.each i).order, (a.scanned.sources.each i).within) }

  pub deliveries_held : Held deck x.deliveries
  deliveries_held = record { each = λ i. ((a.scanned.deliveries.each i).order, (a.scanned.deliveries.each i).within) }

  source_part_lem : (i : ℕ) → i < h.nsources → part_at deck x.sources i ≡ escape (chars (source_at h i).label)
  source_part_lem i l = (a.scanned.sources.each i).bytes ∙ rw (lt-ltb i h.nsources l)

  delivery_part_lem : (j : ℕ) → j < h.ndeliveries → part_at deck x.deliveries j ≡ escape (chars (delivery_at h j).label)
  delivery_part_lem j l = (a.scanned.deliveries.each j).bytes ∙ rw (lt-ltb j h.ndeliveries l)

  pub deliveries_short : ShortLabels deck x.deliveries h.ndeliveries
  deliveries_short = record { short = λ j l. omega (arith, ap length (delivery_part_lem j l), label_short _ ((hour_labels h a.hour.valid).deliveries j l)) }

  pair_written : (j i : ℕ) → j < h.ndeliveries → i < h.nsources → (rest : List ℕ)
      → pair_at deck x.sources cells (j * (h.nsources * pair_width)) (head_at deck x.deliveries ks j) i rest ≡ printed (pair_line h p j i) rest
  pair_written j i l m rest =
      pair_same (delivery_part_lem j l) (a.hour.numbered j l) (source_part_lem i m) (ap pair_amounts (pairs_are a.hour j i l m)) rest
      ∙ pair_line_lem (chars (delivery_at h j).label) (key_at (keys h) j).number (chars (source_at h i).label) (pair_amounts (p.cells j i)) rest

  open_written : (i : ℕ) → i < h.nsources → (rest : List ℕ) → open_at deck x.sources cells (h.ndeliveries * (h.nsources * pair_width)) i rest ≡ printed (open_line h p i) rest
  open_written i m rest =
      line_same (text "internal \"") (source_part_lem i m) (ap open_amounts (opens_are a.hour i m)) rest
      ∙ open_line_lem (chars (source_at h i).label) (open_amounts λ item. pos (open_amount item (get_or p.states i no_running))) rest

  pub report_is : written_text deck x ks cells [] ≡ report deck
  unfolding reports.report reports.report_lines
  report_is =
      let pairs : ℕ → ℕ → Text = λ j. pair_at deck x.sources cells (j * (h.nsources * pair_width)) (head_at deck x.deliveries ks j) in
      let opens = open_at deck x.sources cells (h.ndeliveries * (h.nsources * pair_width)) in
      lines_made printed h p pairs opens pair_written open_written [] ∙ printed_all (hour_lines h p) ∙ rw (a.read, a.hour.run)

  -- its length, part by part
  pub report_length : length (printed (header_line h) []) + length (rows_text deck x ks cells []) + length (left_text deck x cells []) + length (printed end []) ≡ length (report deck)
  report_length =
      let last = printed end [] in
      let opens = left_text deck x cells last in
      let rows = rows_text deck x ks cells opens in
      omega (arith, ap length report_is, (front_printed (header_line h)).longer rows, (front_rows deck x ks cells).longer opens, (front_left deck x cells).longer last)
