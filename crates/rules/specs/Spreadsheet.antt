-- Document 02, item 1, "The allocations as a spreadsheet file": the report's lines as RFC 4180 text, and what a file's bytes come to.
use Rattle.std.specs.Prelude.{Bool, true, false, ◌&&◌, ◌||◌, List, [], ◌∷◌, ◌++◌, ℕ, zero, suc, ◌+◌, ◌-◌, ltb, eqb, ℤ, pos, negsuc, length, drop}
use Rattle.std.proofs.Math.Option.{Option, none, some}
use Rattle.rules.specs.Words.{when◌then◌else◌, text}
use Rattle.rules.specs.Refusals.{Outcome, accepted, refused, and_then}
use Rattle.rules.specs.Fields.{Field, got, malformed, on_field, byte, byte_at, number_at, is_character, is_label, Chars}
use Rattle.rules.specs.Report.{ReportLine, hour, pair, internal, end, refusal, signed_text}
use Rattle.rules.specs.declared.Refusal.TheVariants.{FileRecord}

-- How many amounts each kind of line has, of the fields n1 to n4.
abbrev pub amount_fields : ℕ
amount_fields = 4

abbrev pub hour_count : ℕ
hour_count = 4

abbrev pub pair_count : ℕ
pair_count = 3

abbrev pub open_count : ℕ
open_count = 2

-- Writing. Each text is followed by the rest of the file.

-- "CRLF ends"
abbrev pub crlf : List ℕ → List ℕ
crlf rest = 13 ∷ 10 ∷ rest

-- "quotes doubled, spaces kept"
unfoldable pub doubled : Chars → List ℕ → List ℕ
doubled [] rest = rest
doubled (c ∷ cs) rest = when eqb c 34 then 34 ∷ 34 ∷ doubled cs rest else c ∷ doubled cs rest

-- "every label quoted", after its comma
abbrev pub label_field : Chars → List ℕ → List ℕ
label_field cs rest = 44 ∷ 34 ∷ doubled cs (34 ∷ rest)

-- a number after its comma
abbrev pub number_field : ℤ → List ℕ → List ℕ
number_field z rest = 44 ∷ signed_text z ++ rest

unfoldable pub number_fields : List ℤ → List ℕ → List ℕ
number_fields [] rest = rest
number_fields (z ∷ zs) rest = number_field z (number_fields zs rest)

-- "unused fields empty"
unfoldable pub unused : ℕ → List ℕ → List ℕ
unused zero rest = rest
unused (suc n) rest = 44 ∷ unused n rest

-- "its amounts from n1 on", and the record's end
abbrev pub last_fields : List ℤ → List ℕ → List ℕ
last_fields zs rest = number_fields zs (unused (amount_fields - length zs) (crlf rest))

-- "a record of eight fields for each line of the report, its kind `hour`, `delivery`, `internal` or `end`"; a refusal has no file
unfoldable pub record_text : ReportLine → List ℕ → List ℕ
record_text (hour amounts) rest = text "hour" ++ unused 3 (last_fields amounts rest)
record_text (pair delivery number source amounts) rest = text "delivery" ++ label_field delivery (number_field number (label_field source (last_fields amounts rest)))
record_text (internal source amounts) rest = text "internal" ++ unused 2 (label_field source (last_fields amounts rest))
record_text end rest = text "end" ++ unused 3 (last_fields [] rest)
record_text (refusal number place) rest = rest

unfoldable pub record_texts : List ReportLine → List ℕ
record_texts [] = []
record_texts (l ∷ ls) = record_text l (record_texts ls)

-- "the header `kind,delivery,number,source,n1,n2,n3,n4`"
abbrev pub header : List ℕ
header = text "kind,delivery,number,source,n1,n2,n3,n4"

unfoldable pub file_text : List ReportLine → List ℕ
file_text ls = header ++ crlf (record_texts ls)

-- The lists of lines that have a file.

-- how far a file is: its header passed, its hour too, internals begun, its end passed
abbrev pub headed : ℕ
headed = 0

abbrev pub houred : ℕ
houred = 1

abbrev pub opened : ℕ
opened = 2

abbrev pub ended : ℕ
ended = 3

-- "one `hour`, any deliveries, any internals and one `end`": how far it is after a line, where that may come
abbrev pub after : ℕ → ReportLine → Option ℕ
after stage (hour amounts) = when eqb stage headed then some houred else none
after stage (pair delivery number source amounts) = when eqb stage houred then some houred else none
after stage (internal source amounts) = when eqb stage houred || eqb stage opened then some opened else none
after stage end = when eqb stage houred || eqb stage opened then some ended else none
after stage (refusal number place) = none

abbrev pub ordered : Option ℕ → (ℕ → Bool) → Bool
ordered none go = false
ordered (some stage) go = go stage

unfoldable pub in_order : ℕ → List ReportLine → Bool
in_order stage [] = eqb stage ended
in_order stage (l ∷ ls) = ordered (after stage l) λ further. in_order further ls

-- "fit 64 signed bits"
abbrev pub fits64 : ℤ → Bool
fits64 (pos n) = ltb n 9_223_372_036_854_775_808
fits64 (negsuc n) = ltb n 9_223_372_036_854_775_808

unfoldable pub all_fit : List ℤ → Bool
all_fit [] = true
all_fit (z ∷ zs) = fits64 z && all_fit zs

abbrev pub amounts_fit : ℕ → List ℤ → Bool
amounts_fit n zs = eqb (length zs) n && all_fit zs

abbrev pub line_fits : ReportLine → Bool
line_fits (hour amounts) = amounts_fit hour_count amounts
line_fits (pair delivery number source amounts) = is_label delivery && fits64 number && is_label source && amounts_fit pair_count amounts
line_fits (internal source amounts) = is_label source && amounts_fit open_count amounts
line_fits end = true
line_fits (refusal number place) = false

unfoldable pub all_lines_fit : List ReportLine → Bool
all_lines_fit [] = true
all_lines_fit (l ∷ ls) = line_fits l && all_lines_fit ls

unfoldable pub has_file : List ReportLine → Bool
has_file ls = in_order headed ls && all_lines_fit ls

-- Reading.

-- bytes that must stand there
unfoldable pub text_at : List ℕ → ℕ → List ℕ → Field (Unit {0})
text_at s at [] = got tt at
text_at s at (b ∷ t) = on_field (byte_at s at b) λ u p. text_at s p t

abbrev pub pushed : ℕ → Field Chars → Field Chars
pushed c (got cs next) = got (c ∷ cs) next
pushed c malformed = malformed

-- a label's characters from behind its opening quote, at the place i, to behind its closing one; in the second case a quote was just passed:
-- another one makes it a character, and else it was the closing one
unfoldable pub quoted : Bool → ℕ → List ℕ → Field Chars
quoted false i [] = malformed
quoted false i (b ∷ t) =
    when eqb b 34 then quoted true (suc i) t else
    when is_character b then pushed b (quoted false (suc i) t) else malformed
quoted true i [] = got [] i
quoted true i (b ∷ t) = when eqb b 34 then pushed 34 (quoted false (suc i) t) else got [] i

-- a label after its comma
unfoldable pub label_at : List ℕ → ℕ → Field Chars
label_at s at =
    on_field (text_at s at (44 ∷ 34 ∷ [])) λ u p.
    on_field (quoted false p (drop p s)) λ cs q.
    when is_label cs then got cs q else malformed

-- "Numbers are whole, fit 64 signed bits and have no leading zeros": of so many without its sign
abbrev pub above : ℕ → ℕ → Field ℤ
above n p = when fits64 (pos n) then got (pos n) p else malformed

abbrev pub below : ℕ → ℕ → Field ℤ
below zero p = malformed
below (suc n) p = when fits64 (negsuc n) then got (negsuc n) p else malformed

unfoldable pub signed_at : List ℕ → ℕ → Field ℤ
signed_at s at =
    when eqb (byte s at) 45 then on_field (number_at s (at + 1)) below
    else on_field (number_at s at) above

-- a number after its comma
unfoldable pub number_field_at : List ℕ → ℕ → Field ℤ
number_field_at s at = on_field (byte_at s at 44) λ u p. signed_at s p

abbrev pub listed : ℤ → Field (List ℤ) → Field (List ℤ)
listed z (got zs next) = got (z ∷ zs) next
listed z malformed = malformed

-- so many of them
unfoldable pub numbers_at : ℕ → List ℕ → ℕ → Field (List ℤ)
numbers_at zero s at = got [] at
numbers_at (suc n) s at = on_field (number_field_at s at) λ z p. listed z (numbers_at n s p)

-- a record's amounts and its end
unfoldable pub last_fields_at : ℕ → List ℕ → ℕ → Field (List ℤ)
last_fields_at n s at =
    on_field (numbers_at n s at) λ zs p.
    on_field (text_at s p (unused (amount_fields - n) (crlf []))) λ u q.
    got zs q

unfoldable pub hour_at : List ℕ → ℕ → Field ReportLine
hour_at s at =
    on_field (text_at s at (text "hour,,,")) λ u p.
    on_field (last_fields_at hour_count s p) λ zs q.
    got (hour zs) q

unfoldable pub delivery_at : List ℕ → ℕ → Field ReportLine
delivery_at s at =
    on_field (text_at s at (text "delivery")) λ u p.
    on_field (label_at s p) λ delivery q.
    on_field (number_field_at s q) λ number r.
    on_field (label_at s r) λ source t.
    on_field (last_fields_at pair_count s t) λ zs v.
    got (pair delivery number source zs) v

unfoldable pub internal_at : List ℕ → ℕ → Field ReportLine
internal_at s at =
    on_field (text_at s at (text "internal,,")) λ u p.
    on_field (label_at s p) λ source q.
    on_field (last_fields_at open_count s q) λ zs r.
    got (internal source zs) r

unfoldable pub end_at : List ℕ → ℕ → Field ReportLine
end_at s at =
    on_field (text_at s at (text "end,,,")) λ u p.
    on_field (last_fields_at 0 s p) λ zs q.
    got end q

-- the record from a place on, by the first letter of its kind, and where the next one starts
unfoldable pub record_at : List ℕ → ℕ → Field ReportLine
record_at s at =
    when eqb (byte s at) 104 then hour_at s at else
    when eqb (byte s at) 100 then delivery_at s at else
    when eqb (byte s at) 105 then internal_at s at else
    end_at s at

-- "record not of the form, missing or out of order, with its number" (16): the records from a place on, f at most, the first being the k-th
abbrev pub on_record : {A : Type 0} → Field A → ℕ → (A → ℕ → Outcome (List ReportLine)) → Outcome (List ReportLine)
on_record (got a p) k go = go a p
on_record malformed k go = refused (FileRecord k)

-- a line that may come or not; "and one `end`", after which nothing stands
abbrev pub on_stage : List ℕ → ℕ → ReportLine → ℕ → (ℕ → Outcome (List ReportLine)) → Option ℕ → Outcome (List ReportLine)
on_stage s k l p go none = refused (FileRecord k)
on_stage s k l p go (some stage) =
    when eqb stage ended then (when eqb p (length s) then accepted (l ∷ []) else refused (FileRecord (k + 1))) else
    and_then (go stage) λ ls. accepted (l ∷ ls)

unfoldable pub records_from : ℕ → List ℕ → ℕ → ℕ → ℕ → Outcome (List ReportLine)
records_from zero s stage k at = refused (FileRecord k)
records_from (suc f) s stage k at = on_record (record_at s at) k λ l p. on_stage s k l p (λ further. records_from f s further (k + 1) p) (after stage l)

-- "reading gives the written lines again, and a file that is not the writing of one `hour`, any deliveries, any internals and one `end` is refused":
-- the lines of a file, "the header's being 1". A record has a byte at least, so that so many turns suffice.
unfoldable pub file_lines : List ℕ → Outcome (List ReportLine)
file_lines s = on_record (text_at s 0 (header ++ crlf [])) 1 λ u p. records_from (length s) s headed 2 p
