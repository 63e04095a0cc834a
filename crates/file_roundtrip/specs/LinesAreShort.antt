-- The lines of a file, printed, have at most twice its bytes: a backslash, which stands single in the file, is all that grows.
use Rattle.std.specs.Prelude.{Bool, true, false, List, [], ◌∷◌, ◌++◌, ◌≡◌, ℕ, zero, suc, ◌+◌, ◌-◌, ◌*◌, ◌≤◌, eqb, ℤ, length}
use Rattle.std.proofs.Common.{ap, arith, length-append}
use Rattle.rules.specs.Words.{when◌then◌else◌}
use Rattle.rules.specs.Fields.{Chars, escape}
use Rattle.rules.specs.Refusals.{accepted}
use Rattle.rules.specs.Report as reports
use Rattle.rules.specs.Report.{ReportLine, hour, pair, internal, end, refusal, signed_text, label_text, amounts_text, report_text, report_texts}
use Rattle.rules.specs.Spreadsheet as spreadsheet
use Rattle.rules.specs.Spreadsheet.{amount_fields, crlf, doubled, label_field, number_field, number_fields, unused, last_fields, record_text, record_texts, header, file_text, line_fits, headed, in_order, all_lines_fit, has_file, file_lines}
use Rattle.laws.specs.Choices.{both_true}
use Rattle.roundtrip.specs.DeckFits.{escape_most}
use Rattle.file_roundtrip.specs.FileRoundTrip.{file_stood}

doubled_longer : (cs rest : List ℕ) → length cs + length rest ≤ length (doubled cs rest)
unfolding spreadsheet.doubled
doubled_longer [] rest = omega arith
doubled_longer (c ∷ cs) rest = go (eqb c 34) (doubled_longer cs rest)
  where
    go : (b : Bool) → length cs + length rest ≤ length (doubled cs rest)
        → length (c ∷ cs) + length rest ≤ length (when b then 34 ∷ 34 ∷ doubled cs rest else c ∷ doubled cs rest)
    go true h = omega arith
    go false h = omega arith

label_longer : (cs rest : List ℕ) → length cs + 3 + length rest ≤ length (label_field cs rest)
label_longer cs rest = omega (arith, doubled_longer cs (34 ∷ rest))

label_short : (cs : Chars) → length (label_text cs) ≤ 2 * length cs + 2
label_short cs = omega (arith, length-append (escape cs) (34 ∷ []), escape_most cs)

numbers_same : (zs : List ℤ) (rest : List ℕ) → length (number_fields zs rest) ≡ length (amounts_text zs) + length rest
unfolding spreadsheet.number_fields reports.amounts_text
numbers_same [] rest = omega arith
numbers_same (z ∷ zs) rest = omega (arith, length-append (signed_text z) (number_fields zs rest), length-append (signed_text z) (amounts_text zs), numbers_same zs rest)

unused_longer : (n : ℕ) (rest : List ℕ) → length (unused n rest) ≡ n + length rest
unfolding spreadsheet.unused
unused_longer zero rest = omega arith
unused_longer (suc n) rest = omega (arith, unused_longer n rest)

last_longer : (zs : List ℤ) (rest : List ℕ) → length (amounts_text zs) + 2 + length rest ≤ length (last_fields zs rest)
last_longer zs rest =
    omega (arith, numbers_same zs (unused (amount_fields - length zs) (crlf rest)), unused_longer (amount_fields - length zs) (crlf rest))

line_short : (l : ReportLine) (rest : List ℕ) → line_fits l ≡ true → length (report_text l) + 1 + 2 * length rest ≤ 2 * length (record_text l rest)
unfolding reports.report_text spreadsheet.record_text
line_short (hour zs) rest f = omega (arith, unused_longer 3 (last_fields zs rest), last_longer zs rest)
line_short (pair delivery number source zs) rest f =
    let last = last_fields zs rest in
    let from_source = label_field source last in
    let from_number = number_field number from_source in
    omega (
      arith,
      length-append (label_text delivery) (32 ∷ signed_text number ++ (32 ∷ label_text source ++ amounts_text zs)),
      length-append (signed_text number) (32 ∷ label_text source ++ amounts_text zs),
      length-append (label_text source) (amounts_text zs),
      label_short delivery,
      label_short source,
      label_longer delivery from_number,
      length-append (signed_text number) from_source,
      label_longer source last,
      last_longer zs rest,
    )
line_short (internal source zs) rest f =
    let last = last_fields zs rest in
    omega (
      arith,
      length-append (label_text source) (amounts_text zs),
      label_short source,
      unused_longer 2 (label_field source last),
      label_longer source last,
      last_longer zs rest,
    )
line_short end rest f = omega (arith, unused_longer 3 (last_fields [] rest), last_longer [] rest)
line_short (refusal number place) rest f = let z : ◌≡◌ {A = ℕ} 0 1 = cc in absurd (omega arith)

texts_short : (ls : List ReportLine) → all_lines_fit ls ≡ true → length (report_texts ls) ≤ 2 * length (record_texts ls)
unfolding reports.report_texts spreadsheet.record_texts spreadsheet.all_lines_fit
texts_short [] f = omega arith
texts_short (l ∷ ls) f =
    let b = both_true (line_fits l) (all_lines_fit ls) f in
    omega (arith, length-append (report_text l) (10 ∷ report_texts ls), line_short l (record_texts ls) b.0, texts_short ls b.1)

pub lines_short : (s : List ℕ) (ls : List ReportLine) → file_lines s ≡ accepted ls → length (report_texts ls) ≤ 2 * length s
unfolding spreadsheet.file_text spreadsheet.has_file
lines_short s ls e =
    let f = file_stood s ls e in
    let b = both_true (in_order headed ls) (all_lines_fit ls) f.1 in
    omega (arith, ap length f.0, length-append header (crlf (record_texts ls)), texts_short ls b.1)
