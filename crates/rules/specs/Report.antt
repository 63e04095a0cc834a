-- Document 01, "Hours to try": the report's lines, and their text.
use Rattle.std.specs.Prelude.{List, [], ◌∷◌, ◌++◌, map, ℕ, suc, ◌+◌, ◌-◌, get_or, ℤ, pos, negsuc, ◌+ℤ◌}
use Rattle.rules.specs.Words.{list_to, text}
use Rattle.rules.specs.Refusals.{Outcome, accepted, refused, number_of, place_of, and_then}
use Rattle.rules.specs.Group.{no_running, Item, direct_mwh, incremental_mwh, direct_cost, incremental_cost, OpenItem, open_amount}
use Rattle.rules.specs.Hour.{keys, key_at, Progress, reconstructed, open_items}
use Rattle.rules.specs.Fields.{digits, escape, Chars}
use Rattle.rules.specs.Record.{chars, source_at, delivery_at}
use Rattle.rules.specs.Reading.{generated, delivered, reading}
use Rattle.rules.specs.declared.Hour.{Hour}

pub data ReportLine : Type 0 where
  hour : (amounts : List ℤ) → ReportLine
  pair : (delivery : Chars) (number : ℤ) (source : Chars) (amounts : List ℤ) → ReportLine
  internal : (source : Chars) (amounts : List ℤ) → ReportLine
  end : ReportLine
  refusal : (number place : ℕ) → ReportLine

-- "Header: generation, losses, deliveries, internal load."
abbrev pub hour_amounts : (generation losses deliveries : ℕ) → List ℤ
hour_amounts g l d = pos g ∷ pos l ∷ pos d ∷ pos (g - (l + d)) ∷ []

abbrev pub header_line : Hour → ReportLine
header_line h = hour (hour_amounts (generated h) h.losses (delivered h))

-- "direct MWh, incremental MWh, both costs in one sum": what a pair's cells, item by item, are printed as
abbrev pub pair_amounts : (Item → ℤ) → List ℤ
pair_amounts cell = cell direct_mwh ∷ cell incremental_mwh ∷ (cell direct_cost +ℤ cell incremental_cost) ∷ []

-- "open MWh and cost of each source": what a source's open cells are printed as
abbrev pub open_amounts : (OpenItem → ℤ) → List ℤ
open_amounts cell = map cell open_items

-- "Then each delivery with each source, deck order: label as in the deck, internal number, source, .."
abbrev pub pair_line : Hour → Progress → ℕ → ℕ → ReportLine
pair_line h p j i =
    pair (chars (delivery_at h j).label) (pos (key_at (keys h) j).number.0) (chars (source_at h i).label) (pair_amounts (p.cells j i))

-- "Then open MWh and cost of each source."
abbrev pub open_line : Hour → Progress → ℕ → ReportLine
open_line h p i = internal (chars (source_at h i).label) (open_amounts λ item. pos (open_amount item (get_or p.states i no_running)))

unfoldable pub hour_lines : Hour → Progress → List ReportLine
hour_lines h p =
    header_line h ∷ list_to (λ j. list_to (λ i. pair_line h p j i ∷ []) h.nsources) h.ndeliveries ++
    (list_to (λ i. open_line h p i ∷ []) h.nsources ++ (end ∷ []))

-- "A refusal prints only `refused`, number, place."
abbrev pub lines_of : Outcome (List ReportLine) → List ReportLine
lines_of (accepted ls) = ls
lines_of (refused r) = refusal (number_of r) (place_of r) ∷ []

-- the report of a deck, as lines
unfoldable pub report_lines : List ℕ → List ReportLine
report_lines s = lines_of (and_then (reading s) λ h. and_then (reconstructed h) λ p. accepted (hour_lines h p))

-- Their text.

abbrev pub signed_text : ℤ → List ℕ
signed_text (pos n) = digits n
signed_text (negsuc n) = 45 ∷ digits (suc n)

-- a label between its quotes, escapes unread
abbrev pub label_text : Chars → List ℕ
label_text cs = 34 ∷ escape cs ++ (34 ∷ [])

-- two texts with a space between
infixr 5 ◌␣◌
abbrev pub ◌␣◌ : List ℕ → List ℕ → List ℕ
x ␣ y = x ++ (32 ∷ y)

-- each amount after a space
unfoldable pub amounts_text : List ℤ → List ℕ
amounts_text [] = []
amounts_text (z ∷ zs) = 32 ∷ signed_text z ++ amounts_text zs

unfoldable pub report_text : ReportLine → List ℕ
report_text (hour amounts) = text "hour" ++ amounts_text amounts
report_text (pair delivery number source amounts) = label_text delivery ␣ signed_text number ␣ label_text source ++ amounts_text amounts
report_text (internal source amounts) = text "internal" ␣ label_text source ++ amounts_text amounts
report_text end = text "end"
report_text (refusal number place) = text "refused" ␣ digits number ␣ digits place

-- each line with its LF
unfoldable pub report_texts : List ReportLine → List ℕ
report_texts [] = []
report_texts (l ∷ ls) = report_text l ++ (10 ∷ report_texts ls)

-- what `report` prints for a deck
unfoldable pub report : List ℕ → List ℕ
report s = report_texts (report_lines s)
