-- A deck whose D line mentions a unit and a delivery: each mention has the bytes of the label, and stands elsewhere.
use Rattle.std.specs.Prelude.{List, ◌≡◌, refl, ℕ, take, drop}
use Rattle.rules.specs.Words.{sum_to, list_to, all_to, any_to, find_to, same_list, text}
use Rattle.rules.specs.Sequences.{matches, rule_a, rule_b, rule_c, rule_d, rule_e, placed, numbered}
use Rattle.rules.specs.Fields.{byte_at, run, number_at, digits_in, digits, escape, unescape, closing, label_end, all_characters, is_label, spaced_number, spaced_label, basis_at, spaced_basis}
use Rattle.rules.specs.Lines.{fields_at, seen, ranged, labelled, letter_of, places_at, line_at}
use Rattle.rules.specs.Record.{started}
use Rattle.rules.specs.Reading.{taken, headed, finished, lines_from, reading}
use Rattle.rules.specs.Calls.{source_part, delivery_part}
use Rattle.rules.specs.Places.{past, line_start, label_start, source_start, delivery_start}

pub mentioning : List ℕ
mentioning = text "H 10\nU 100 120 40 30 20 20 50000 9000 10 10000 \"U1\"\nT 30 1 1 60 \"X\"\nD 30 50 \"U1\" \"X\"\nE\n"

-- where the D line's two labels start
abbrev pub unit_mention : ℕ
unit_mention = 77

abbrev pub delivery_mention : ℕ
delivery_mention = 82

pub record Elsewhere : Type 0 where
  pub unit_bytes : take 2 (drop unit_mention mentioning) ≡ source_part mentioning 0
  pub unit_start : source_start mentioning 0 ≡ 48
  pub delivery_bytes : take 1 (drop delivery_mention mentioning) ≡ delivery_part mentioning 0
  pub delivery_start_lem : delivery_start mentioning 0 ≡ 65

pub elsewhere : Elsewhere
unfolding mentioning sum_to list_to all_to any_to find_to same_list matches rule_a rule_b rule_c rule_d rule_e placed numbered byte_at run number_at digits_in digits escape unescape closing label_end all_characters is_label spaced_number spaced_label basis_at spaced_basis fields_at seen ranged labelled letter_of places_at line_at started taken headed finished lines_from reading source_part delivery_part past line_start label_start
elsewhere = record { unit_bytes = refl; unit_start = refl; delivery_bytes = refl; delivery_start_lem = refl }
