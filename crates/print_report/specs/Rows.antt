-- The report's rows as they are written: labels as parts of the deck, amounts as cells.
use Rattle.std.specs.Prelude.{◌≡◌, List, [], ◌∷◌, ◌++◌, ℕ, ◌+◌, ◌*◌, ◌≤◌, ◌<◌, length, get_or, ℤ}
use Rattle.std.proofs.Common.{ap, ◌∙◌, arith, length-append}
use Rattle.rules.specs.Words.{text}
use Rattle.rules.specs.Fields.{digits}
use Rattle.rules.specs.Hour.{pair_width, open_width, key_at}
use Rattle.rules.specs.Report.{pair_amounts, open_amounts}
use Rattle.rules.specs.declared.InternalSequence.{InternalSequence}
use Rattle.rules.specs.declared.Key.{Key}
use Rattle.deck.specs.Answers.{nowhere, bytes_of}
use Rattle.read_fields.specs.declared.Place.{Place}
use Rattle.write_fields.specs.Inked.{Text, Room, Front, up_to, front_up_to}
use Rattle.write_fields.specs.Lengths.{digits_few}
use Rattle.print_lines.specs.Lines.{head_text, line_text, open_text, front_line}
use Rattle.hour_lines.specs.LineAmounts.{pair_from, open_from}

-- each place lies in the deck
pub record Held (deck : List ℕ) (ps : List Place) : Type 0 where
  pub each : (i : ℕ) → ((get_or ps i nowhere).from ≤ (get_or ps i nowhere).upto) × ((get_or ps i nowhere).upto ≤ length deck)

-- the label at a place
abbrev pub part_at : List ℕ → List Place → ℕ → List ℕ
part_at deck ps i = bytes_of deck (get_or ps i nowhere)

-- a delivery with source i: what its lines begin with, and the pair's cells from a place on
abbrev pub pair_at : List ℕ → List Place → List ℤ → ℕ → List ℕ → ℕ → Text
pair_at deck sources cells base head i = line_text head (part_at deck sources i) (pair_amounts (pair_from cells (base + i * pair_width)))

-- a delivery with each of n sources
abbrev pub row_text : List ℕ → List Place → ℕ → List ℤ → ℕ → List ℕ → Text
row_text deck sources n cells base head = up_to (pair_at deck sources cells base head) n

-- what the lines of delivery j begin with
abbrev pub head_at : List ℕ → List Place → List Key → ℕ → List ℕ
head_at deck deliveries keys j = head_text (part_at deck deliveries j) (key_at keys j).number []

-- delivery j with each source
abbrev pub row_at : List ℕ → List Place → ℕ → List Place → List Key → List ℤ → ℕ → Text
row_at deck sources n deliveries keys cells j = row_text deck sources n cells (j * (n * pair_width)) (head_at deck deliveries keys j)

-- what source i has left, its cells from a place on
abbrev pub open_at : List ℕ → List Place → List ℤ → ℕ → ℕ → Text
open_at deck sources cells base i = open_text (part_at deck sources i) (open_amounts (open_from cells (base + i * open_width)))

pub front_pair_at : (deck : List ℕ) (sources : List Place) (cells : List ℤ) (base : ℕ) (head : List ℕ) (i : ℕ) → Front (pair_at deck sources cells base head i)
front_pair_at deck sources cells base head i = front_line head (part_at deck sources i) (pair_amounts (pair_from cells (base + i * pair_width)))

pub front_open_at : (deck : List ℕ) (sources : List Place) (cells : List ℤ) (base i : ℕ) → Front (open_at deck sources cells base i)
front_open_at deck sources cells base i = front_line (text "internal \"") (part_at deck sources i) (open_amounts (open_from cells (base + i * open_width)))

pub front_row : (deck : List ℕ) (sources : List Place) (n : ℕ) (cells : List ℤ) (base : ℕ) (head : List ℕ) → Front (row_text deck sources n cells base head)
front_row deck sources n cells base head = front_up_to (pair_at deck sources cells base head) (λ i. front_pair_at deck sources cells base head i) n

pub front_row_at : (deck : List ℕ) (sources : List Place) (n : ℕ) (deliveries : List Place) (keys : List Key) (cells : List ℤ) (j : ℕ) → Front (row_at deck sources n deliveries keys cells j)
front_row_at deck sources n deliveries keys cells j = front_row deck sources n cells (j * (n * pair_width)) (head_at deck deliveries keys j)

pub front_opens : (deck : List ℕ) (sources : List Place) (cells : List ℤ) (base n : ℕ) → Front (up_to (open_at deck sources cells base) n)
front_opens deck sources cells base n = front_up_to (open_at deck sources cells base) (λ i. front_open_at deck sources cells base i) n

-- a line of what is the same
pub line_same : (head : List ℕ) {s t : List ℕ} {ys zs : List ℤ} → s ≡ t → ys ≡ zs → (rest : List ℕ) → line_text head s ys rest ≡ line_text head t zs rest
line_same head a b rest = rw (a, b)

-- What the lines of a delivery begin with.

-- the first n labels have at most as many bytes as any label
pub record ShortLabels (deck : List ℕ) (ps : List Place) (n : ℕ) : Type 0 where
  pub short : (j : ℕ) → j < n → length (part_at deck ps j) ≤ 32

pub head_room : (deck : List ℕ) (deliveries : List Place) (m : ℕ) (part : List ℕ) (number : InternalSequence) (buf : List ℕ) (j : ℕ)
    → j < m → ShortLabels deck deliveries m → part ≡ part_at deck deliveries j → length buf ≡ 64 → Room buf 0 (head_text part number [])
head_room deck deliveries m part number buf j l s e f =
    record {
      fits = omega (
        arith,
        s.short j l,
        ap length e,
        f,
        digits_few number.0,
        length-append part (34 ∷ 32 ∷ digits number.0 ++ (32 ∷ 34 ∷ [])),
        length-append (digits number.0) (32 ∷ 34 ∷ []),
      );
    }

-- Rows of what was made: heads that were written, and parts that were cut.

pub row_at_held : (deck : List ℕ) (sources : List Place) (n : ℕ) (deliveries : List Place) (keys : List Key) (cells : List ℤ) (j : ℕ) (head : List ℕ) → head ≡ head_at deck deliveries keys j
    → (rest : List ℕ) → row_text deck sources n cells (j * (n * pair_width)) head rest ≡ row_at deck sources n deliveries keys cells j rest
row_at_held deck sources n deliveries keys cells j head e rest = ap (λ (w : List ℕ). row_text deck sources n cells (j * (n * pair_width)) w rest) e

-- the head of delivery j, of its part as it was cut
pub head_at_lem : (deck : List ℕ) (deliveries : List Place) (keys : List Key) (j : ℕ) (part head : List ℕ) → part ≡ part_at deck deliveries j → head ≡ head_text part (key_at keys j).number [] → head ≡ head_at deck deliveries keys j
head_at_lem deck deliveries keys j part head e f = f ∙ ap (λ (w : List ℕ). head_text w (key_at keys j).number []) e
