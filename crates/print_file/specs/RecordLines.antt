-- The lines of a file's records as what is written one after another, and how long they are at most.
use Rattle.std.specs.Prelude.{◌≡◌, true, ◌&&◌, List, [], ◌∷◌, ◌++◌, ℕ, ◌+◌, ◌*◌, ◌≤◌, eqb, ℤ, length, drop, Option, Some}
use Rattle.std.proofs.Common.{ap, sym, ◌∙◌, append_assoc, arith, length-append, eqb-true, leb-true, to_z-of_z, SFits}
use Rattle.std.specs.Int.{w64}
use Rattle.rules.specs.Words.{text}
use Rattle.rules.specs.Fields.{Field, got, malformed, escape, is_label, Chars}
use Rattle.rules.specs.Record.{chars}
use Rattle.rules.specs.Report as report
use Rattle.rules.specs.Report.{ReportLine, hour, pair, internal, end, refusal, signed_text, label_text, amounts_text}
use Rattle.rules.specs.Spreadsheet.{hour_count, pair_count, open_count, fits64, all_fit, amounts_fit, line_fits}
use Rattle.rules.specs.declared.Label.{Label}
use Rattle.laws.specs.Choices.{false_not_true, both_true}
use Rattle.roundtrip.specs.DeckFits.{escape_most}
use Rattle.roundtrip.specs.Labels.{label_from_lem}
use Rattle.read_records.specs.Answers.{line_of, field_of}
use Rattle.read_records.specs.declared.Record.{Record}
use Rattle.read_records.specs.declared.Record.TheVariants.{Delivery}
use Rattle.write_fields.specs.Inked as inked
use Rattle.write_fields.specs.Inked.{Text}
use Rattle.write_fields.specs.Texts.{quoted_text}
use Rattle.write_amounts.specs.Amounts.{front_amounts, amounts_first, amounts_size_lem, amounts_most}
use Rattle.write_amounts.specs.Held.{held}
use Rattle.print_lines.specs.Lines.{spaced_amounts, printed, open_line_lem, hour_length}

-- what ends a line: a source's label, its amounts and LF
abbrev pub source_text : Chars → List ℤ → Text
source_text s zs rest = quoted_text s (spaced_amounts zs (10 ∷ rest))

abbrev pub pair_text : Chars → ℤ → Chars → List ℤ → Text
pair_text d n s zs rest = quoted_text d (spaced_amounts (n ∷ []) (32 ∷ source_text s zs rest))

-- the line that was found at a place
abbrev pub text_of : Field ReportLine → Text
text_of (got l p) rest = printed l rest
text_of malformed rest = rest

-- of a record that is read
pub kind_text : (r : Option (Record × ℕ)) (x : Record) (next : ℕ) → r ≡ Some (x, next) → (rest : List ℕ)
    → text_of (got (line_of x) next) rest ≡ text_of (field_of r) rest
kind_text r x next e rest = ap (λ (y : Option (Record × ℕ)). text_of (field_of y) rest) (sym e)

-- no line has more bytes
abbrev pub most_line : ℕ
most_line = 160

-- Lines.

pub internal_made : (s : Chars) (zs : List ℤ) (rest : List ℕ) → text "internal " ++ source_text s zs rest ≡ printed (internal s zs) rest
internal_made s zs rest = open_line_lem s zs rest

source_made : (s : Chars) (zs : List ℤ) (rest : List ℕ) → source_text s zs rest ≡ (label_text s ++ amounts_text zs) ++ (10 ∷ rest)
unfolding report.report_text
source_made s zs rest = ap (drop 9) (internal_made s zs rest)

one_amount : (z : ℤ) (rest : List ℕ) → spaced_amounts (z ∷ []) rest ≡ 32 ∷ signed_text z ++ rest
unfolding inked.up_to
one_amount z rest = amounts_first 32 z [] rest

pub pair_made : (d : Chars) (n : ℤ) (s : Chars) (zs : List ℤ) (rest : List ℕ) → pair_text d n s zs rest ≡ printed (pair d n s zs) rest
unfolding report.report_text
pair_made d n s zs rest =
    let last = label_text s ++ amounts_text zs in
    let lf : List ℕ = 10 ∷ rest in
    ap (quoted_text d)
    (one_amount n (32 ∷ source_text s zs rest)
    ∙ ap (λ (w : List ℕ). 32 ∷ signed_text n ++ (32 ∷ w)) (source_made s zs rest)
    ∙ sym (ap (λ (w : List ℕ). 32 ∷ w) (append_assoc (signed_text n) (32 ∷ last) lf)))
    ∙ sym
    (append_assoc (label_text d) (32 ∷ signed_text n ++ (32 ∷ last)) lf
    ∙ ap (λ (w : List ℕ). 34 ∷ w) (append_assoc (escape d) (34 ∷ []) (32 ∷ (signed_text n ++ (32 ∷ last)) ++ lf)))

-- a delivery's number as it is held
pub number_held : (z : ℤ) → SFits w64 z → (rest : List ℕ) → spaced_amounts (held z ∷ []) rest ≡ spaced_amounts (z ∷ []) rest
number_held z h rest = ap (λ (y : ℤ). spaced_amounts (y ∷ []) rest) (to_z-of_z h)

pub pair_held : (r : Option (Record × ℕ)) (d : Label) (n : ℤ) (s : Label) (zs : List ℤ) (next : ℕ) → r ≡ Some (Delivery d n s zs, next) → held n ≡ n → (rest : List ℕ)
    → printed (pair (chars d) (held n) (chars s) zs) rest ≡ text_of (field_of r) rest
pair_held r d n s zs next k e rest = ap (λ (z : ℤ). printed (pair (chars d) z (chars s) zs) rest) e ∙ kind_text r (Delivery d n s zs) next k rest

-- Lengths.

quoted_most : (cs : Chars) (rest : List ℕ) → is_label cs ≡ true → length (quoted_text cs rest) ≤ 34 + length rest
quoted_most cs rest e = omega (arith, length-append (escape cs) (34 ∷ rest), escape_most cs, leb-true (length cs) 16 (label_from_lem cs e).few)

amounts_short : (zs : List ℤ) (rest : List ℕ) → length (spaced_amounts zs rest) ≤ length zs * 22 + length rest
amounts_short zs rest = omega (arith, (front_amounts 32 zs).longer rest, amounts_size_lem 32 zs, amounts_most zs)

source_most : (s : Chars) (zs : List ℤ) → is_label s ≡ true → length (source_text s zs []) ≤ 35 + length zs * 22
source_most s zs e = omega (arith, quoted_most s (spaced_amounts zs (10 ∷ [])) e, amounts_short zs (10 ∷ []))

pair_most : (d : Chars) (n : ℤ) (s : Chars) (zs : List ℤ) → is_label d ≡ true → is_label s ≡ true → length (printed (pair d n s zs) []) ≤ 92 + length zs * 22
pair_most d n s zs e f =
    let w : List ℕ = 32 ∷ source_text s zs [] in
    omega (arith, ap length (pair_made d n s zs []), quoted_most d (spaced_amounts (n ∷ []) w) e, amounts_short (n ∷ []) w, source_most s zs f)

internal_most : (s : Chars) (zs : List ℤ) → is_label s ≡ true → length (printed (internal s zs) []) ≤ 44 + length zs * 22
internal_most s zs e = omega (arith, ap length (internal_made s zs []), source_most s zs e)

count_fits : (n : ℕ) (zs : List ℤ) → amounts_fit n zs ≡ true → length zs ≡ n
count_fits n zs e = eqb-true (length zs) n (both_true (eqb (length zs) n) (all_fit zs) e).0

pub line_most : (l : ReportLine) → line_fits l ≡ true → length (printed l []) ≤ most_line
unfolding report.report_text
line_most (hour zs) e = omega (arith, hour_length zs, amounts_most zs, count_fits hour_count zs e)
line_most (pair d n s zs) e =
    let p = both_true (is_label d && fits64 n && is_label s) (amounts_fit pair_count zs) e in
    let q = both_true (is_label d && fits64 n) (is_label s) p.0 in
    let r = both_true (is_label d) (fits64 n) q.0 in
    omega (arith, pair_most d n s zs r.0 q.1, count_fits pair_count zs p.1)
line_most (internal s zs) e =
    let p = both_true (is_label s) (amounts_fit open_count zs) e in
    omega (arith, internal_most s zs p.0, count_fits open_count zs p.1)
line_most end e = omega arith
line_most (refusal n p) e = false_not_true e
