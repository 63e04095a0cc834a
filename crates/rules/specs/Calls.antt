-- Document 01, "Numbers a call may give back", and document 02, item 1: what the calls come to, and what they leave in lent memory.
use Rattle.std.specs.Prelude.{not, List, [], ◌++◌, ℕ, ltb, length, drop, ℤ}
use Rattle.rules.specs.Words.{when◌then◌else◌}
use Rattle.rules.specs.Refusals.{Outcome, accepted, refused, refuse, and_then}
use Rattle.rules.specs.Fields.{escape}
use Rattle.rules.specs.Hour.{cell_count, reconstructed, answer}
use Rattle.rules.specs.Record.{chars, source_at, delivery_at}
use Rattle.rules.specs.Reading.{reading}
use Rattle.rules.specs.Report.{hour_lines, report_texts, report}
use Rattle.rules.specs.Spreadsheet.{file_text, file_lines}
use Rattle.rules.specs.Writing.{deck_text, valid}
use Rattle.rules.specs.declared.Hour.{Hour}
use Rattle.rules.specs.declared.Refusal.TheVariants.{Short, NoDeck}

-- "Writing: 15, then 14." Into a buffer of so many bytes
unfoldable pub writing : Hour → ℕ → Outcome (List ℕ)
writing h size =
    refuse (not (valid h)) NoDeck
    (refuse (ltb size (length (deck_text h))) Short
    (accepted (deck_text h)))

-- "14, then the first group that meets 12 or 13": of an hour that a deck gives. Into a buffer of so many cells
unfoldable pub cells_for : Hour → ℕ → Outcome (List ℤ)
cells_for h size =
    refuse (ltb size (cell_count h)) Short
    (answer h)

-- "Reconstruction: 15, then 14, then the first group that meets 12 or 13."
unfoldable pub reconstruction : Hour → ℕ → Outcome (List ℤ)
reconstruction h size =
    refuse (not (valid h)) NoDeck
    (cells_for h size)

-- bytes into a buffer of so many
abbrev pub into : ℕ → List ℕ → Outcome (List ℕ)
into size bytes =
    refuse (ltb size (length bytes)) Short
    (accepted bytes)

-- the report of a deck
unfoldable pub reporting : List ℕ → ℕ → Outcome (List ℕ)
reporting s size = into size (report s)

-- Document 02, item 1, the spreadsheet file: of an hour that a deck gives, 12 or 13, then "14 for a short buffer"
unfoldable pub file_for : Hour → ℕ → Outcome (List ℕ)
file_for h size = and_then (reconstructed h) λ p. into size (file_text (hour_lines h p))

-- of an hour record: "after 15"
unfoldable pub spreadsheet : Hour → ℕ → Outcome (List ℕ)
spreadsheet h size =
    refuse (not (valid h)) NoDeck
    (file_for h size)

-- of a deck
unfoldable pub deck_spreadsheet : List ℕ → ℕ → Outcome (List ℕ)
deck_spreadsheet s size = and_then (reading s) λ h. file_for h size

-- a file's lines as the report prints them: 16, then 14
unfoldable pub spreadsheet_lines : List ℕ → ℕ → Outcome (List ℕ)
spreadsheet_lines s size = and_then (file_lines s) λ ls. into size (report_texts ls)

-- "A refused call changes no lent byte or number. An accepted one changes just the cells of the hour's pairs and open lines,
-- or the deck's bytes; the rest stays."
abbrev pub leaves : {A : Type 0} → Outcome (List A) → List A → List A
leaves (accepted xs) buffer = xs ++ drop (length xs) buffer
leaves (refused r) buffer = buffer

-- "A label asked of an accepted deck comes back as a part of that deck, at the label's own bytes between the quotes, escapes unread.
-- For an entry the deck lacks, or a refused deck, the part is empty"
abbrev pub source_part_of : Outcome Hour → ℕ → List ℕ
source_part_of (accepted h) i = when ltb i h.nsources then escape (chars (source_at h i).label) else []
source_part_of (refused r) i = []

abbrev pub delivery_part_of : Outcome Hour → ℕ → List ℕ
delivery_part_of (accepted h) j = when ltb j h.ndeliveries then escape (chars (delivery_at h j).label) else []
delivery_part_of (refused r) j = []

unfoldable pub source_part : List ℕ → ℕ → List ℕ
source_part s i = source_part_of (reading s) i

unfoldable pub delivery_part : List ℕ → ℕ → List ℕ
delivery_part s j = delivery_part_of (reading s) j
