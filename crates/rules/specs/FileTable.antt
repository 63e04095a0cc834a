-- Document 02, item 1: spreadsheet files, by one statement over one table.
use Rattle.std.specs.Prelude.{Bool, true, false, ◌&&◌, List, [], ◌∷◌, ◌++◌, ◌≡◌, refl, ℕ, eqb, length, replicate}
use Prim.Native.String.{String}
use Rattle.rules.specs.Words.{sum_to, list_to, all_to, any_to, find_to, same_list, text}
use Rattle.rules.specs.Refusals.{Outcome, accepted, refused, number_of, place_of}
use Rattle.rules.specs.Units.{curve_cost}
use Rattle.rules.specs.Sequences.{matches, rule_a, rule_b, rule_c, rule_d, rule_e, placed, numbered}
use Rattle.rules.specs.Group.{changed, directed, group_line, group_lines, room, unit_room, better, next, move, plain, headroom, to_emergency, unload, credit, remainder, up_to}
use Rattle.rules.specs.Hour.{keys, in_turn, turns, share, shared, rest, group, groups, reconstructed}
use Rattle.rules.specs.Fields.{byte_at, run, number_at, digits_in, digits, escape, unescape, closing, label_end, all_characters, is_label, spaced_number, spaced_label, basis_at, spaced_basis}
use Rattle.rules.specs.Lines.{fields_at, seen, written, ranged, labelled, letter_of, places_at, line_at, line_text}
use Rattle.rules.specs.Record.{started, body}
use Rattle.rules.specs.Reading.{taken, feed, headed, finished, lines_from, reading}
use Rattle.rules.specs.Report.{ReportLine, hour_lines, report_lines, amounts_text, report_text, report_texts, report}
use Rattle.rules.specs.Spreadsheet.{doubled, number_fields, unused, record_text, record_texts, file_text, in_order, all_fit, all_lines_fit, has_file, text_at, quoted, label_at, signed_at, number_field_at, numbers_at, last_fields_at, hour_at, delivery_at, internal_at, end_at, record_at, records_from, file_lines}
use Rattle.rules.specs.Calls.{leaves, file_for, spreadsheet, deck_spreadsheet, spreadsheet_lines}

-- the bytes of a deck's or a report's lines, and of a file's records
abbrev lines : List String → List ℕ
lines [] = []
lines (l ∷ ls) = text l ++ (10 ∷ lines ls)

abbrev records : List String → List ℕ
records [] = []
records (r ∷ rs) = text r ++ (13 ∷ 10 ∷ records rs)

-- a file's records after its header
abbrev file : List String → List ℕ
file rs = records ("kind,delivery,number,source,n1,n2,n3,n4" ∷ rs)

-- What a row may say.

pub data Case : Type 0 where
  files : (deck file : List ℕ) → Case  -- a deck's file, from which its report is read again
  reads : (file report : List ℕ) → Case  -- lines that need be no hour's
  refuses : (file : List ℕ) → (number : ℕ) → Case  -- 16
  leaves_file : (deck buffer after : List ℕ) → Case
  leaves_lines : (file buffer after : List ℕ) → Case

is_refused : {A : Type 0} → ℕ → Outcome A → Bool
is_refused place (accepted a) = false
is_refused place (refused r) = eqb (number_of r) 16 && eqb (place_of r) place

accepts : {A : Type 0} → (A → Bool) → Outcome A → Bool
accepts right (accepted a) = right a
accepts right (refused r) = false

-- a file's lines have this text, and are written as that file
read_as : List ℕ → List ℕ → List ReportLine → Bool
read_as s t ls = same_list (report_texts ls) t && same_list (file_text ls) s && has_file ls

right : Case → Bool
right (files d s) = accepts (same_list s) (deck_spreadsheet d 10_000) && accepts (read_as s (report d)) (file_lines s)
right (reads s t) = accepts (read_as s t) (file_lines s)
right (refuses s k) = is_refused k (file_lines s)
right (leaves_file d buffer after) = same_list (leaves (deck_spreadsheet d (length buffer)) buffer) after
right (leaves_lines s buffer after) = same_list (leaves (spreadsheet_lines s (length buffer)) buffer) after

pub all_right : List Case → Bool
all_right [] = true
all_right (c ∷ cs) = right c && all_right cs

-- The rows' common parts.

hour_zero : String
hour_zero = "hour,,,,0,0,0,0"

end_record : String
end_record = "end,,,,,,,"

-- one record between the hour's and the end's
between : String → List ℕ
between r = file (hour_zero ∷ r ∷ end_record ∷ [])

none : List ℕ
none = file (hour_zero ∷ end_record ∷ [])

pub table : List Case
table =
    -- The printed hour, the hour of nothing, and an hour of credits.
    files (lines ("H 10" ∷ "U 100 120 40 30 20 20 50000 9000 10 10000 \"U1\"" ∷ "P 30 95000 \"P1\"" ∷ "T 30 1 1 60 \"X\"" ∷ "T 28 1 1 20 \"X \"" ∷ "D 30 50 \"U1\" \"X \"" ∷ "E" ∷ []))
    (file
    ("hour,,,,130,10,80,40" ∷
    "delivery,\"X\",300,\"U1\",0,50,9750000000," ∷
    "delivery,\"X\",300,\"P1\",0,10,1900000000," ∷
    "delivery,\"X \",280,\"U1\",15,0,3245000000," ∷
    "delivery,\"X \",280,\"P1\",0,5,950000000," ∷
    "internal,,,\"U1\",35,7005000000,," ∷
    "internal,,,\"P1\",15,2850000000,," ∷
    end_record ∷ [])) ∷
    files (lines ("H 0" ∷ "E" ∷ [])) none ∷
    files (lines ("H 2" ∷ "U 23 24 22 9 9 5 9 0 0 0 \"S0\"" ∷ "T 1 2 4 0 \"T0\"" ∷ "D 4 44 \"S0\" \"T0\"" ∷ "E" ∷ []))
    (file ("hour,,,,23,2,0,21" ∷ "delivery,\"T0\",10,\"S0\",1,-1,0," ∷ "internal,,,\"S0\",23,0,," ∷ end_record ∷ [])) ∷
    -- Labels by their characters: a comma, a quote, a backslash, spaces at both ends.
    files (lines ("H 0" ∷ "F 5 \"a\\\"b\\\\\"" ∷ "F 1 \",\"" ∷ "F 2 \" , \"" ∷ "F 3 \"\\\"\"" ∷ "E" ∷ []))
    (file ("hour,,,,11,0,0,11" ∷ "internal,,,\"a\"\"b\\\",5,0,," ∷ "internal,,,\",\",1,0,," ∷ "internal,,,\" , \",2,0,," ∷ "internal,,,\"\"\"\",3,0,," ∷ end_record ∷ [])) ∷
    -- Lines as data: nothing is asked of how they hang together.
    reads (file ("hour,,,,-1,9223372036854775807,-9223372036854775808,0" ∷ "delivery,\"X\",-7,\"\"\"\"\"\",0,-1,10," ∷ "delivery,\"X\",-7,\"\"\"\"\"\",0,-1,10," ∷ "internal,,,\"1234567890123456\",5,6,," ∷ end_record ∷ []))
    (lines ("hour -1 9223372036854775807 -9223372036854775808 0" ∷ "\"X\" -7 \"\\\"\\\"\" 0 -1 10" ∷ "\"X\" -7 \"\\\"\\\"\" 0 -1 10" ∷ "internal \"1234567890123456\" 5 6" ∷ "end" ∷ [])) ∷
    -- 16: no header, another one, or one without its end
    refuses [] 1 ∷
    refuses (text "kind,delivery,number,source,n1,n2,n3,n4") 1 ∷
    refuses (records ("Kind,delivery,number,source,n1,n2,n3,n4" ∷ hour_zero ∷ end_record ∷ [])) 1 ∷
    refuses (239 ∷ 187 ∷ 191 ∷ none) 1 ∷
    refuses (records (hour_zero ∷ end_record ∷ [])) 1 ∷
    refuses (lines ("kind,delivery,number,source,n1,n2,n3,n4" ∷ hour_zero ∷ end_record ∷ [])) 1 ∷
    -- a record that is missing, cut off, out of order, or one too many
    refuses (file []) 2 ∷
    refuses (file (end_record ∷ [])) 2 ∷
    refuses (file (hour_zero ∷ [])) 3 ∷
    refuses (file (hour_zero ∷ []) ++ text "end,,,,,,,") 3 ∷
    refuses (file (hour_zero ∷ []) ++ text "end,,,,,,,\n") 3 ∷
    refuses (file (hour_zero ∷ []) ++ (text "end,,,,,,," ++ (13 ∷ []))) 3 ∷
    refuses (file (hour_zero ∷ []) ++ text "del") 3 ∷
    refuses (between hour_zero) 3 ∷
    refuses (file (hour_zero ∷ "internal,,,\"U\",5,6,," ∷ "delivery,\"X\",1,\"U\",0,0,0," ∷ end_record ∷ [])) 4 ∷
    refuses (none ++ (10 ∷ [])) 4 ∷
    refuses (none ++ records ("" ∷ [])) 4 ∷
    refuses (file (hour_zero ∷ end_record ∷ end_record ∷ [])) 4 ∷
    refuses (file (hour_zero ∷ end_record ∷ "internal,,,\"U\",5,6,," ∷ [])) 4 ∷
    -- fields: one more, one less, one that is unused, a kind's name
    refuses (between "internal,,,\"U\",5,6,,,") 3 ∷
    refuses (between "internal,,,\"U\",5,6,") 3 ∷
    refuses (between "internal,,,\"U\",5,6,7,") 3 ∷
    refuses (between "internal,\"\",,\"U\",5,6,,") 3 ∷
    refuses (between "Internal,,,\"U\",5,6,,") 3 ∷
    refuses (file (hour_zero ∷ "end,,,,,,,0" ∷ [])) 3 ∷
    refuses (file ("hour,,,,0,0,0," ∷ end_record ∷ [])) 2 ∷
    -- labels: not quoted, too long, empty, a quote alone, text behind the closing quote, an escape of the deck's, characters that no label has
    refuses (between "internal,,,U,5,6,,") 3 ∷
    refuses (between "internal,,,\"12345678901234567\",5,6,,") 3 ∷
    refuses (between "internal,,,\"\",5,6,,") 3 ∷
    refuses (between "internal,,,\"a\"b\",5,6,,") 3 ∷
    refuses (between "internal,,,\"a\" ,5,6,,") 3 ∷
    refuses (between "internal,,,\"a\\\"\",5,6,,") 3 ∷
    refuses (between "internal,,,\"a\nb\",5,6,,") 3 ∷
    reads (between "internal,,,\"\\\\\",5,6,,") (lines ("hour 0 0 0 0" ∷ "internal \"\\\\\\\\\" 5 6" ∷ "end" ∷ [])) ∷
    -- numbers: a leading zero, a sign too many, spaces, past 64 signed bits either way
    refuses (between "internal,,,\"U\",05,6,,") 3 ∷
    refuses (between "internal,,,\"U\",-05,6,,") 3 ∷
    refuses (between "internal,,,\"U\",-0,6,,") 3 ∷
    refuses (between "internal,,,\"U\",+5,6,,") 3 ∷
    refuses (between "internal,,,\"U\",-,6,,") 3 ∷
    refuses (between "internal,,,\"U\", 5,6,,") 3 ∷
    refuses (between "internal,,,\"U\",5.0,6,,") 3 ∷
    refuses (between "internal,,,\"U\",9223372036854775808,6,,") 3 ∷
    refuses (between "internal,,,\"U\",-9223372036854775809,6,,") 3 ∷
    refuses (between "internal,,,\"U\",18446744073709551621,6,,") 3 ∷
    -- 14 and lent memory: one byte short, and one more than is written; 16 before 14, and 2 and 12 before it
    leaves_lines none (replicate 16 7) (replicate 16 7) ∷
    leaves_lines none (replicate 18 7) (text "hour 0 0 0 0\nend\n" ++ (7 ∷ [])) ∷
    leaves_lines (none ++ (10 ∷ [])) (replicate 18 7) (replicate 18 7) ∷
    leaves_file (lines ("H 0" ∷ "E" ∷ [])) (replicate 69 7) (replicate 69 7) ∷
    leaves_file (lines ("H 0" ∷ "E" ∷ [])) (replicate 71 7) (none ++ (7 ∷ [])) ∷
    []

pub written_and_read : all_right table ≡ true
unfolding table all_right right hour_zero end_record between none is_refused accepts read_as sum_to list_to all_to any_to find_to same_list curve_cost matches rule_a rule_b rule_c rule_d rule_e placed numbered changed directed group_line group_lines room unit_room better next move plain headroom to_emergency unload credit remainder up_to keys in_turn turns share shared rest group groups reconstructed byte_at run number_at digits_in digits escape unescape closing label_end all_characters is_label spaced_number spaced_label basis_at spaced_basis fields_at seen written ranged labelled letter_of places_at line_at line_text started body taken feed headed finished lines_from reading hour_lines report_lines amounts_text report_text report_texts report doubled number_fields unused record_text record_texts file_text in_order all_fit all_lines_fit has_file text_at quoted label_at signed_at number_field_at numbers_at last_fields_at hour_at delivery_at internal_at end_at record_at records_from file_lines file_for spreadsheet deck_spreadsheet spreadsheet_lines
written_and_read = refl
