-- Document 01, "The deck": where a label that is asked of a deck stands in it.
use Rattle.std.specs.Prelude.{List, [], ◌∷◌, ◌++◌, ℕ, zero, suc, ◌+◌, ◌*◌, ltb, eqb, length, drop}
use Rattle.rules.specs.Calls.{source_part, delivery_part}
use Rattle.rules.specs.Reading.{reading}
use Rattle.rules.specs.Refusals.{Outcome, accepted, refused, refuse, and_then}
use Rattle.rules.specs.Words.{when◌then◌else◌, list_to}
use Rattle.rules.specs.declared.Hour.{Hour}
use Rattle.rules.specs.declared.Refusal.TheVariants.{Short}

-- how many bytes there are up to the first b and with it; all of them where there is none
unfoldable pub past : ℕ → List ℕ → ℕ
past b [] = 0
past b (x ∷ xs) = when eqb x b then 1 else suc (past b xs)

-- "Each line ends in LF (10)": where a line starts, the first being line 0
unfoldable pub line_start : List ℕ → ℕ → ℕ
line_start s zero = 0
line_start s (suc k) = line_start s k + past 10 (drop (line_start s k) s)

-- "A label is 1 to 16 characters .. between double quotes" (34): where a line's first label starts
unfoldable pub label_start : List ℕ → ℕ → ℕ
label_start s k = line_start s k + past 34 (drop (line_start s k) s)

-- "For an entry the deck lacks, or a refused deck, the part is empty; no label is": such a part starts at 0, any other where its label does
abbrev pub part_start : ℕ → ℕ → ℕ
part_start start n = when eqb n 0 then 0 else start

-- how many sources a deck has
abbrev pub sources_of : Outcome Hour → ℕ
sources_of (accepted h) = h.nsources
sources_of (refused r) = 0

-- "A label asked of an accepted deck comes back as a part of that deck, at the label's own bytes between the quotes, escapes unread."
-- "One H, then sources in any mix": source i stands on line i + 1
abbrev pub source_start : List ℕ → ℕ → ℕ
source_start s i = part_start (label_start s (i + 1)) (length (source_part s i))

-- "then T lines": delivery j stands on line j + 1 after the sources
abbrev pub delivery_start : List ℕ → ℕ → ℕ
delivery_start s j = part_start (label_start s (sources_of (reading s) + j + 1)) (length (delivery_part s j))

-- a part's place as one number: where its bytes start, times 2^32, and how many they are; so 0 where there are none
abbrev pub place_code : ℕ → ℕ → ℕ
place_code start n = start * 4_294_967_296 + n

-- the place of source i's label
abbrev pub source_place : List ℕ → ℕ → ℕ
source_place s i = place_code (source_start s i) (length (source_part s i))

-- the place of delivery j's label
abbrev pub delivery_place : List ℕ → ℕ → ℕ
delivery_place s j = place_code (delivery_start s j) (length (delivery_part s j))

-- The places of all labels, asked for at once.

-- each source's in deck order, and then each delivery's
abbrev pub label_places : List ℕ → Hour → List ℕ
label_places s h = list_to (λ i. source_place s i ∷ []) h.nsources ++ list_to (λ j. delivery_place s j ∷ []) h.ndeliveries

-- 1 to 11 by the deck, then "lent buffer too short" (14): into a buffer of so many numbers
unfoldable pub labelling : List ℕ → ℕ → Outcome (List ℕ)
labelling s size =
    and_then (reading s) λ h.
    refuse (ltb size (h.nsources + h.ndeliveries)) Short
    (accepted (label_places s h))
