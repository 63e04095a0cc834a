-- The file of any valid hour fits into so many bytes.
use Rattle.std.specs.Prelude.{◌≡◌, true, List, [], ℕ, ◌+◌, ◌-◌, ◌*◌, ◌≤◌, ◌<◌, ℤ, pos, length}
use Rattle.std.proofs.Common.{ap, arith, length-append, leb-true}
use Rattle.rules.specs.Refusals.{accepted}
use Rattle.rules.specs.Fields.{digits, Chars, is_label}
use Rattle.rules.specs.Hour.{Progress, reconstructed}
use Rattle.rules.specs.Reading.{generated, delivered}
use Rattle.rules.specs.Writing.{valid}
use Rattle.rules.specs.Report.{hour, pair, internal, hour_amounts, pair_amounts, open_amounts, hour_lines}
use Rattle.rules.specs.Spreadsheet as sheet
use Rattle.rules.specs.Spreadsheet.{amount_fields, pair_count, open_count, label_field, number_field, last_fields, record_text, record_texts, file_text}
use Rattle.rules.specs.declared.Hour.{Hour}
use Rattle.rules.specs.declared.InternalSequence.{InternalSequence}
use Rattle.roundtrip.specs.Labels.{label_from_lem}
use Rattle.write_records.specs.Records.{head_text, most_label, most_last, label_most, last_length, last_most, source_length, delivery_length, hour_made, delivery_made, internal_made, front_label, front_header, front_record}
use Rattle.hour_lines.specs.LineAmounts.{SmallAmounts}
use Rattle.hour_lines.specs.BytesAreFew.{number_short, amounts_short, ShortLines, lines_most}
use Rattle.write_spreadsheet.specs.HourFile.{records_all}

-- as many as no file passes
abbrev pub most_file : ℕ
most_file = 147456

-- n small amounts take so many bytes with the record's end, 17 at most each
abbrev most_amounts : ℕ → ℕ
most_amounts n = n * 17 + (amount_fields - n) + 2

-- a pair's record and an open one
abbrev most_pair : ℕ
most_pair = 8 + most_label + 4 + most_label + most_amounts pair_count

abbrev most_open : ℕ
most_open = 10 + most_label + most_amounts open_count

-- Records.

last_short : (zs : List ℤ) → SmallAmounts zs → length (last_fields zs []) ≤ most_amounts (length zs)
last_short zs small = omega (arith, last_length zs, amounts_short zs small)

label_short : (cs : Chars) → is_label cs ≡ true → length (label_field cs []) ≤ most_label
label_short cs e = label_most cs (leb-true (length cs) 16 (label_from_lem cs e).few)

pair_short : (d : Chars) (n : InternalSequence) (s : Chars) (zs : List ℤ) → is_label d ≡ true → n.0 < 1000 → is_label s ≡ true → SmallAmounts zs
    → length (record_text (pair d (pos n.0) s zs) []) ≤ 8 + most_label + 4 + most_label + most_amounts (length zs)
pair_short d n s zs dl nl sl small =
    omega (
      arith,
      ap length (delivery_made d n s zs []),
      delivery_length (head_text d n []) s zs,
      source_length s zs,
      (front_label d).longer (number_field (pos n.0) []),
      length-append (digits n.0) [],
      number_short n.0 nl,
      label_short d dl,
      label_short s sl,
      last_short zs small,
    )

open_short : (s : Chars) (zs : List ℤ) → is_label s ≡ true → SmallAmounts zs → length (record_text (internal s zs) []) ≤ 10 + most_label + most_amounts (length zs)
open_short s zs sl small = omega (arith, ap length (internal_made s zs []), source_length s zs, label_short s sl, last_short zs small)

records_short : ShortLines record_text most_pair most_open
records_short =
    record {
      front = front_record;
      pairs = λ d n s cell. pair_short d n s (pair_amounts cell);
      opens = λ s cell. open_short s (open_amounts cell);
    }

hour_short : (zs : List ℤ) → length zs ≤ amount_fields → length (record_text (hour zs) []) ≤ 7 + most_last
hour_short zs h = omega (arith, ap length (hour_made zs []), last_length zs, last_most zs h)

-- The hour.

pub file_fits : (h : Hour) (p : Progress) → valid h ≡ true → reconstructed h ≡ accepted p → length (file_text (hour_lines h p)) ≤ most_file
unfolding sheet.file_text sheet.record_text sheet.unused sheet.number_fields
file_fits h p v run =
    omega (
      arith,
      front_header.longer (record_texts (hour_lines h p)),
      ap length (records_all (hour_lines h p)),
      lines_most record_text most_pair most_open records_short h p v run,
      hour_short (hour_amounts (generated h) h.losses (delivered h)) (omega arith),
    )
