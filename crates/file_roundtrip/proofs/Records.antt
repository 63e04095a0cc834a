-- A written record is read back.
--     record_read      where the record of a line that fits stands, the line is read, and behind it what stands there
use Rattle.std.specs.Prelude.{◌≡◌, ◌&&◌, ℕ, ℤ, drop}
use Rattle.std.proofs.Math.Path.{refl}
use Rattle.std.proofs.Math.Bool.{true}
use mathlib.Core.List.{List, []}
use Rattle.rules.specs.Words.{text}
use Rattle.rules.specs.Fields.{is_label, Chars}
use Rattle.rules.specs.Report.{ReportLine, hour, pair, internal, end, refusal}
use Rattle.rules.specs.Spreadsheet as spreadsheet
use Rattle.rules.specs.Spreadsheet.{hour_count, pair_count, open_count, label_field, number_field, unused, last_fields, record_text, fits64, all_fit, amounts_fit, line_fits, text_at, label_at, number_field_at, last_fields_at, hour_at, delivery_at, internal_at, end_at, record_at}
use Rattle.laws.specs.Choices.{false_not_true, both_true}
use Rattle.laws.specs.Lists.{get_d_first}
use Rattle.file_roundtrip.specs.Standing.{Reads, reads_then, text_read}
use Rattle.file_roundtrip.proofs.QuotedLabels.{label_read}
use Rattle.file_roundtrip.specs.Records.{last_parted, number_field_read, last_read}

-- A written record is read.

module _ (s rest : List ℕ) (at : ℕ) where
  hour_read : (zs : List ℤ) → line_fits (hour zs) ≡ true → drop at s ≡ record_text (hour zs) rest → Reads s (hour_at s at) (hour zs) rest
  unfolding spreadsheet.record_text spreadsheet.unused spreadsheet.hour_at
  hour_read zs f e =
      let w = last_fields zs rest in
      reads_then s (text_at s at (text "hour,,,")) _ tt (hour zs) w rest (text_read (text "hour,,,") s w at e) λ p pe.
      reads_then s (last_fields_at hour_count s p) _ zs (hour zs) rest rest (last_read hour_count zs s rest p f pe) λ q qe.
      record { next = q; is = refl; past = qe }

  delivery_read : (delivery : Chars) (number : ℤ) (source : Chars) (zs : List ℤ) → line_fits (pair delivery number source zs) ≡ true
      → drop at s ≡ record_text (pair delivery number source zs) rest → Reads s (delivery_at s at) (pair delivery number source zs) rest
  unfolding spreadsheet.record_text spreadsheet.delivery_at
  delivery_read delivery number source zs f e =
      let a = both_true (is_label delivery && fits64 number && is_label source) (amounts_fit pair_count zs) f in
      let b = both_true (is_label delivery && fits64 number) (is_label source) a.0 in
      let c = both_true (is_label delivery) (fits64 number) b.0 in
      let l = pair delivery number source zs in
      let last = last_fields zs rest in
      let behind_number = label_field source last in
      let behind_delivery = number_field number behind_number in
      let behind_kind = label_field delivery behind_delivery in
      reads_then s (text_at s at (text "delivery")) _ tt l behind_kind rest (text_read (text "delivery") s behind_kind at e) λ p pe.
      reads_then s (label_at s p) _ delivery l behind_delivery rest (label_read delivery s behind_delivery p c.0 refl pe) λ q qe.
      reads_then s (number_field_at s q) _ number l behind_number rest (number_field_read number s behind_number q c.1 refl qe) λ r re.
      reads_then s (label_at s r) _ source l last rest (label_read source s last r b.1 (last_parted zs rest).unquoted re) λ m me.
      reads_then s (last_fields_at pair_count s m) _ zs l rest rest (last_read pair_count zs s rest m a.1 me) λ n ne.
      record { next = n; is = refl; past = ne }

  internal_read : (source : Chars) (zs : List ℤ) → line_fits (internal source zs) ≡ true → drop at s ≡ record_text (internal source zs) rest
      → Reads s (internal_at s at) (internal source zs) rest
  unfolding spreadsheet.record_text spreadsheet.unused spreadsheet.internal_at
  internal_read source zs f e =
      let a = both_true (is_label source) (amounts_fit open_count zs) f in
      let l = internal source zs in
      let last = last_fields zs rest in
      let behind_kind = label_field source last in
      reads_then s (text_at s at (text "internal,,")) _ tt l behind_kind rest (text_read (text "internal,,") s behind_kind at e) λ p pe.
      reads_then s (label_at s p) _ source l last rest (label_read source s last p a.0 (last_parted zs rest).unquoted pe) λ q qe.
      reads_then s (last_fields_at open_count s q) _ zs l rest rest (last_read open_count zs s rest q a.1 qe) λ r re.
      record { next = r; is = refl; past = re }

  end_read : drop at s ≡ record_text end rest → Reads s (end_at s at) end rest
  unfolding spreadsheet.record_text spreadsheet.unused spreadsheet.end_at spreadsheet.all_fit
  end_read e =
      let w = last_fields [] rest in
      reads_then s (text_at s at (text "end,,,")) _ tt end w rest (text_read (text "end,,,") s w at e) λ p pe.
      reads_then s (last_fields_at 0 s p) _ [] end rest rest (last_read 0 [] s rest p refl pe) λ q qe.
      record { next = q; is = refl; past = qe }

pub record_read : (l : ReportLine) (s rest : List ℕ) (at : ℕ) → line_fits l ≡ true → drop at s ≡ record_text l rest → Reads s (record_at s at) l rest
unfolding spreadsheet.record_text spreadsheet.record_at
record_read (hour zs) s rest at f e = rw (get_d_first s (record_text (hour zs) rest) at 0 e) (hour_read s rest at zs f e)
record_read (pair d n c zs) s rest at f e = rw (get_d_first s (record_text (pair d n c zs) rest) at 0 e) (delivery_read s rest at d n c zs f e)
record_read (internal c zs) s rest at f e = rw (get_d_first s (record_text (internal c zs) rest) at 0 e) (internal_read s rest at c zs f e)
record_read end s rest at f e = rw (get_d_first s (record_text end rest) at 0 e) (end_read s rest at e)
record_read (refusal n k) s rest at f e = false_not_true f
