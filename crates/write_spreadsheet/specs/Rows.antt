-- The file's rows as they are written: labels apart from their hour, amounts as cells.
use Rattle.std.specs.Prelude.{◌≡◌, refl, List, [], ℕ, ◌+◌, ◌*◌, ◌≤◌, ◌<◌, length, get_or, set, replicate, ℤ}
use Rattle.std.proofs.Common.{ap, add-one, arith}
use Rattle.rules.specs.Sequences.{no_label}
use Rattle.rules.specs.Fields.{Chars}
use Rattle.rules.specs.Record.{chars, label_of, source_at, delivery_at}
use Rattle.rules.specs.Hour.{pair_width, open_width, key_at}
use Rattle.rules.specs.Report.{internal, pair_amounts, open_amounts}
use Rattle.rules.specs.Spreadsheet.{record_text}
use Rattle.rules.specs.declared.Hour.{Hour}
use Rattle.rules.specs.declared.InternalSequence.{InternalSequence}
use Rattle.rules.specs.declared.Key.{Key}
use Rattle.rules.specs.declared.Label.{Label}
use Rattle.record.specs.Own as own
use Rattle.record.specs.Own.{fill_to}
use Rattle.write_fields.specs.Inked.{Text, Room, Front, up_to, front_up_to}
use Rattle.write_records.specs.Records.{head_text, delivery_text, most_head, front_delivery, front_record, head_most}
use Rattle.hour_lines.specs.LineAmounts.{pair_from, open_from}

-- the labels of an hour's first entries, and none past them
abbrev pub no_labels : List Label
no_labels = replicate 32 (label_of [])

abbrev pub source_labels : Hour → ℕ → List Label
source_labels h n = fill_to (λ i. (source_at h i).label) no_labels n

abbrev pub delivery_labels : Hour → ℕ → List Label
delivery_labels h m = fill_to (λ j. (delivery_at h j).label) no_labels m

pub label_none : (f : ℕ → Label) → no_labels ≡ fill_to f no_labels 0
unfolding own.fill_to
label_none f = refl

-- one label more
pub label_more : (f : ℕ → Label) (ls : List Label) (i : ℕ) → ls ≡ fill_to f no_labels i → set ls i (f i) ≡ fill_to f no_labels (i + 1)
unfolding own.fill_to
label_more f ls i e = rw (add-one, e)

-- a label's characters by its number
abbrev pub label_at : List Label → ℕ → Chars
label_at ls i = chars (get_or ls i no_label)

-- a delivery with source i: what its records begin with, and the pair's cells from a place on
abbrev pub pair_at : List Label → List ℤ → ℕ → List ℕ → ℕ → Text
pair_at sources cells base head i = delivery_text head (label_at sources i) (pair_amounts (pair_from cells (base + i * pair_width)))

-- a delivery with each of n sources
abbrev pub row_text : List Label → ℕ → List ℤ → ℕ → List ℕ → Text
row_text sources n cells base head = up_to (pair_at sources cells base head) n

-- what the records of delivery j begin with
abbrev pub head_at : List Label → List Key → ℕ → List ℕ
head_at deliveries keys j = head_text (label_at deliveries j) (key_at keys j).number []

-- delivery j with each source
abbrev pub row_at : List Label → ℕ → List Label → List Key → List ℤ → ℕ → Text
row_at sources n deliveries keys cells j = row_text sources n cells (j * (n * pair_width)) (head_at deliveries keys j)

-- what source i has left, its cells from a place on
abbrev pub open_at : List Label → List ℤ → ℕ → ℕ → Text
open_at sources cells base i = record_text (internal (label_at sources i) (open_amounts (open_from cells (base + i * open_width))))

pub front_pair_at : (sources : List Label) (cells : List ℤ) (base : ℕ) (head : List ℕ) (i : ℕ) → Front (pair_at sources cells base head i)
front_pair_at sources cells base head i = front_delivery head (label_at sources i) (pair_amounts (pair_from cells (base + i * pair_width)))

pub front_open_at : (sources : List Label) (cells : List ℤ) (base i : ℕ) → Front (open_at sources cells base i)
front_open_at sources cells base i = front_record (internal (label_at sources i) (open_amounts (open_from cells (base + i * open_width))))

pub front_row_at : (sources : List Label) (n : ℕ) (deliveries : List Label) (keys : List Key) (cells : List ℤ) (j : ℕ) → Front (row_at sources n deliveries keys cells j)
front_row_at sources n deliveries keys cells j =
    let head = head_at deliveries keys j in
    let base = j * (n * pair_width) in
    front_up_to (pair_at sources cells base head) (λ i. front_pair_at sources cells base head i) n

-- A record of amounts that were made.

pub pair_made : (head : List ℕ) (s : Chars) {ys zs : List ℤ} → ys ≡ zs → (rest : List ℕ) → delivery_text head s ys rest ≡ delivery_text head s zs rest
pair_made head s e rest = ap (λ (zs : List ℤ). delivery_text head s zs rest) e

pub open_made : (s : Chars) {ys zs : List ℤ} → ys ≡ zs → (rest : List ℕ) → record_text (internal s ys) rest ≡ record_text (internal s zs) rest
open_made s e rest = ap (λ (zs : List ℤ). record_text (internal s zs) rest) e

-- What the records of a delivery begin with.

-- the first n labels have at most as many characters as any label
pub record ShortLabels (ls : List Label) (n : ℕ) : Type 0 where
  pub short : (j : ℕ) → j < n → length (label_at ls j) ≤ 16

pub head_room : (cs : Chars) (number : InternalSequence) (buf : List ℕ) → length cs ≤ 16 → length buf ≡ most_head → Room buf 0 (head_text cs number [])
head_room cs number buf l e = record { fits = omega (arith, head_most cs number l) }

-- the row of a head that was written
pub row_made : (sources : List Label) (n : ℕ) (deliveries : List Label) (keys : List Key) (cells : List ℤ) (j : ℕ) (head : List ℕ) → head ≡ head_at deliveries keys j
    → (rest : List ℕ) → row_text sources n cells (j * (n * pair_width)) head rest ≡ row_at sources n deliveries keys cells j rest
row_made sources n deliveries keys cells j head e rest = ap (λ (w : List ℕ). row_text sources n cells (j * (n * pair_width)) w rest) e
