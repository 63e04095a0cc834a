-- The report of any deck fits into so many bytes.
use Rattle.std.specs.Prelude.{◌≡◌, refl, true, List, [], ◌∷◌, ◌++◌, ℕ, ◌+◌, ◌*◌, ◌≤◌, ◌<◌, ℤ, pos, length}
use Rattle.std.proofs.Common.{ap, arith, length-append}
use Rattle.rules.specs.Words.{text}
use Rattle.rules.specs.Refusals.{Outcome, accepted, refused, number_of, place_of, and_then}
use Rattle.rules.specs.Fields.{digits, escape, Chars, is_label}
use Rattle.rules.specs.Hour.{Progress, reconstructed}
use Rattle.rules.specs.Reading.{generated, delivered, reading}
use Rattle.rules.specs.Writing.{valid}
use Rattle.rules.specs.Report as reports
use Rattle.rules.specs.Report.{pair, internal, refusal, hour_amounts, pair_amounts, open_amounts, hour_lines, lines_of, report_texts, report}
use Rattle.rules.specs.declared.Hour.{Hour}
use Rattle.rules.specs.declared.InternalSequence.{InternalSequence}
use Rattle.rules.specs.declared.Refusal.{Refusal}
use Rattle.roundtrip.specs.DeckRoundTrip.{accepted_is_valid}
use Rattle.write_fields.specs.Lengths.{digits_few}
use Rattle.write_amounts.specs.Amounts.{amounts_most}
use Rattle.print_lines.specs.Lines.{head_text, line_text, printed, pair_line_lem, open_line_lem, front_printed, spaced_length, line_length, hour_length, refusal_length}
use Rattle.hour_lines.specs.LineAmounts.{SmallAmounts}
use Rattle.hour_lines.specs.HourLabels.{label_short}
use Rattle.hour_lines.specs.BytesAreFew.{number_short, amounts_short, ShortLines, lines_most}
use Rattle.print_report.specs.HourRows.{printed_all}

-- as many as no report passes
abbrev pub most_report : ℕ
most_report = 131072

-- a pair's line and an open one have at most so many; an amount takes 17 at most
abbrev most_pair : ℕ
most_pair = 74 + length (pair_amounts λ item. pos 0) * 17

abbrev most_open : ℕ
most_open = 44 + length (open_amounts λ item. pos 0) * 17

-- Lines.

line_short : (head s : List ℕ) (zs : List ℤ) → length s ≤ 32 → SmallAmounts zs → length (line_text head s zs []) ≤ length head + 34 + length zs * 17
line_short head s zs sl small = omega (arith, line_length head s zs, amounts_short zs small)

pair_short : (d : Chars) (n : InternalSequence) (s : Chars) (zs : List ℤ) → is_label d ≡ true → n.0 < 1000 → is_label s ≡ true → SmallAmounts zs
    → length (printed (pair d (pos n.0) s zs) []) ≤ 74 + length zs * 17
pair_short d n s zs dl nl sl small =
    omega (
      arith,
      ap length (pair_line_lem d n s zs []),
      line_short (head_text (escape d) n []) (escape s) zs (label_short s sl) small,
      length-append (escape d) (34 ∷ 32 ∷ digits n.0 ++ (32 ∷ 34 ∷ [])),
      length-append (digits n.0) (32 ∷ 34 ∷ []),
      label_short d dl,
      number_short n.0 nl,
    )

open_short : (s : Chars) (zs : List ℤ) → is_label s ≡ true → SmallAmounts zs → length (printed (internal s zs) []) ≤ 44 + length zs * 17
open_short s zs sl small = omega (arith, ap length (open_line_lem s zs []), line_short (text "internal \"") (escape s) zs (label_short s sl) small)

lines_short : ShortLines printed most_pair most_open
lines_short =
    record {
      front = front_printed;
      pairs = λ d n s cell. pair_short d n s (pair_amounts cell);
      opens = λ s cell. open_short s (open_amounts cell);
    }

refusal_short : (n p : ℕ) → length (printed (refusal n p) []) ≤ 50
refusal_short n p = omega (arith, refusal_length n p, spaced_length n, spaced_length p, digits_few n, digits_few p)

-- The hour.

hour_at_most : (h : Hour) (p : Progress) → valid h ≡ true → reconstructed h ≡ accepted p → length (report_texts (hour_lines h p)) ≤ most_report
unfolding reports.report_text
hour_at_most h p v run =
    let zs = hour_amounts (generated h) h.losses (delivered h) in
    omega (arith, ap length (printed_all (hour_lines h p)), lines_most printed most_pair most_open lines_short h p v run, hour_length zs, amounts_most zs)

pub report_fits : (s : List ℕ) → length (report s) ≤ most_report
unfolding reports.report reports.report_lines reports.report_texts
report_fits s = go (reading s) refl
  where
    one : (r : Refusal) → length (printed (refusal (number_of r) (place_of r)) []) ≤ most_report
    one r = omega (arith, refusal_short (number_of r) (place_of r))

    run : (h : Hour) → valid h ≡ true → (t : Outcome Progress) → reconstructed h ≡ t → length (report_texts (lines_of (and_then t λ p. accepted (hour_lines h p)))) ≤ most_report
    run h v (accepted p) e = hour_at_most h p v e
    run h v (refused r) e = one r

    go : (t : Outcome Hour) → reading s ≡ t → length (report_texts (lines_of (and_then t λ h. and_then (reconstructed h) λ p. accepted (hour_lines h p)))) ≤ most_report
    go (accepted h) e = run h (accepted_is_valid s h e) (reconstructed h) refl
    go (refused r) e = one r
