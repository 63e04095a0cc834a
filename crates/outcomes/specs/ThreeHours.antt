-- Three hours and the cells that they come to: each of document 01's four wrong reconstructors is wrong on one of them.
use Rattle.std.specs.Prelude.{true, List, [], ◌∷◌, ◌≡◌, refl, ℕ, ℤ, pos}
use Rattle.rules.specs.Words.{sum_to, list_to, all_to, any_to, find_to, same_list, text}
use Rattle.rules.specs.Refusals.{Outcome, accepted, refused}
use Rattle.rules.specs.Units.{curve_cost}
use Rattle.rules.specs.Sequences.{matches, rule_a, rule_b, rule_c, rule_d, rule_e, placed, numbered}
use Rattle.rules.specs.Group.{changed, directed, group_line, group_lines, room, unit_room, better, next, move, plain, headroom, to_emergency, unload, credit, remainder, up_to}
use Rattle.rules.specs.Hour.{keys, in_turn, turns, share, shared, rest, group, groups, reconstructed, cells_of, answer}
use Rattle.rules.specs.Fields.{byte_at, run, number_at, digits_in, digits, escape, unescape, closing, label_end, all_characters, is_label, spaced_number, spaced_label, basis_at, spaced_basis}
use Rattle.rules.specs.Lines.{fields_at, seen, written, ranged, labelled, letter_of, places_at, line_at, line_text}
use Rattle.rules.specs.Record.{started, body}
use Rattle.rules.specs.Reading.{taken, feed, headed, finished, lines_from, reading}
use Rattle.rules.specs.Writing.{texts, deck_text, same_by, same_hour, all_labelled, given, valid}
use Rattle.rules.specs.Calls.{cells_for, reconstruction}
use Rattle.rules.specs.declared.Hour.{Hour}
use Rattle.outcomes.specs.FirstGroupBalances.{first_group}

hour_of : Outcome Hour → Hour
hour_of (accepted h) = h
hour_of (refused r) = started 0

pub five_mwh : Hour
five_mwh = hour_of (reading (text "H 0\nF 5 \"A\"\nT 1 1 1 0 \"X\"\nE\n"))

pub six_mwh : Hour
six_mwh = hour_of (reading (text "H 0\nF 6 \"A\"\nT 1 1 1 0 \"X\"\nE\n"))

pub two_groups : Hour
two_groups = hour_of (reading (text "H 0\nP 10 1 \"A\"\nT 2 1 1 3 \"X\"\nT 1 1 1 4 \"Y\"\nE\n"))

-- of an hour with one delivery of nothing: its open MWh stand in the fifth cell
abbrev pub cells_of_open : ℕ → List ℤ
cells_of_open v = pos 0 ∷ pos 0 ∷ pos 0 ∷ pos 0 ∷ pos v ∷ pos 0 ∷ []

abbrev pub whole_cells : List ℤ
whole_cells = pos 0 ∷ pos 3 ∷ pos 0 ∷ pos 6000 ∷ pos 0 ∷ pos 4 ∷ pos 0 ∷ pos 8000 ∷ pos 3 ∷ pos 6000 ∷ []

abbrev pub first_cells : List ℤ
first_cells = pos 0 ∷ pos 3 ∷ pos 0 ∷ pos 6000 ∷ pos 0 ∷ pos 0 ∷ pos 0 ∷ pos 0 ∷ pos 7 ∷ pos 14_000 ∷ []

pub record Computed : Type 0 where
  pub five : reconstruction five_mwh 6 ≡ accepted (cells_of_open 5)
  pub six : reconstruction six_mwh 6 ≡ accepted (cells_of_open 6)
  pub whole : reconstruction two_groups 10 ≡ accepted whole_cells
  pub first : first_group two_groups ≡ accepted first_cells
  pub given : valid two_groups ≡ true

pub computed : Computed
unfolding hour_of five_mwh six_mwh two_groups first_group sum_to list_to all_to any_to find_to same_list curve_cost matches rule_a rule_b rule_c rule_d rule_e placed numbered changed directed group_line group_lines room unit_room better next move plain headroom to_emergency unload credit remainder up_to keys in_turn turns share shared rest group groups reconstructed cells_of answer byte_at run number_at digits_in digits escape unescape closing label_end all_characters is_label spaced_number spaced_label basis_at spaced_basis fields_at seen written ranged labelled letter_of places_at line_at line_text started body taken feed headed finished lines_from reading texts deck_text same_by same_hour all_labelled given valid cells_for reconstruction
computed = record { five = refl; six = refl; whole = refl; first = refl; given = refl }
