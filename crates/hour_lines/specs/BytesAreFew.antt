-- The lines of any valid hour have at most so many bytes, where each line has.
use Rattle.std.specs.Prelude.{◌≡◌, true, List, [], ℕ, zero, suc, ◌+◌, ◌*◌, ◌≤◌, ◌<◌, ℤ, pos, negsuc, nat_abs, length, get_or}
use Rattle.std.proofs.Common.{ap, mul-le-mul_right, arith, length-append}
use Rattle.rules.specs.Refusals.{accepted}
use Rattle.rules.specs.Group.{no_running, Item, OpenItem, open_amount}
use Rattle.rules.specs.Fields as fields
use Rattle.rules.specs.Fields.{digits, Chars, is_label}
use Rattle.rules.specs.Record.{chars, source_at, delivery_at}
use Rattle.rules.specs.Hour.{keys, key_at, Progress, reconstructed}
use Rattle.rules.specs.Report.{ReportLine, pair, internal, end, header_line, pair_amounts, open_amounts, pair_line, open_line, hour_lines, signed_text}
use Rattle.rules.specs.Writing.{valid}
use Rattle.rules.specs.declared.Hour.{Hour}
use Rattle.rules.specs.declared.InternalSequence.{InternalSequence}
use Rattle.roundtrip.specs.DeckFits.{digits_most}
use Rattle.roundtrip.specs.GivenHour.{valid_given}
use Rattle.balance.specs.NumbersBelow1000.{numbers_below}
use Rattle.balance.specs.ValidHour.{valid_sequences}
use Rattle.write_fields.specs.Inked as inked
use Rattle.write_fields.specs.Inked.{Text, Front, up_to, front_up_to}
use Rattle.write_amounts.specs.Amounts.{amount_at, amounts_size, front_signed}
use Rattle.hour_lines.specs.LineAmounts.{SmallAmounts}
use Rattle.hour_lines.specs.LinesText.{lines_text, pairs_text, opens_text, hour_lines_lem}
use Rattle.hour_lines.specs.HourLabels.{hour_labels}
use Rattle.hour_lines.specs.HourCells.{pair_small, open_small}

-- Numbers.

pub number_short : (v : ℕ) → v < 1000 → length (digits v) ≤ 3
unfolding fields.digits fields.digits_in
number_short v h = digits_most v 999 (omega arith)

size_short : (v : ℕ) → v ≤ 200_000_000_000_000 → length (digits v) ≤ 15
unfolding fields.digits fields.digits_in
size_short v h = digits_most v 200_000_000_000_000 h

signed_short : (z : ℤ) → nat_abs z ≤ 200_000_000_000_000 → length (signed_text z) ≤ 16
signed_short (pos n) h = omega (arith, size_short n h)
signed_short (negsuc n) h = omega (arith, size_short (suc n) h)

-- n texts of at most so many bytes
up_to_most : (f : ℕ → Text) → ((i : ℕ) → Front (f i)) → (most n : ℕ) → ((i : ℕ) → i < n → length (f i []) ≤ most) → length (up_to f n []) ≤ n * most
unfolding inked.up_to
up_to_most f fronts most zero h = omega arith
up_to_most f fronts most (suc n) h =
    omega (arith, (front_up_to f fronts n).longer (f n []), up_to_most f fronts most n (λ i l. h i (omega arith)), h n (omega arith))

-- and those of an hour's entries
entries_most : (f : ℕ → Text) → ((i : ℕ) → Front (f i)) → (most n : ℕ) → n ≤ 32 → ((i : ℕ) → i < n → length (f i []) ≤ most) → length (up_to f n []) ≤ 32 * most
entries_most f fronts most n few h = omega (arith, up_to_most f fronts most n h, mul-le-mul_right most few)

-- the amounts of a line take 17 bytes at most each
pub amounts_short : (zs : List ℤ) → SmallAmounts zs → amounts_size zs ≤ length zs * 17
amounts_short zs small =
    up_to_most (amount_at 0 zs) (λ i. front_signed 0 (get_or zs i (pos 0))) 17 (length zs)
    (λ i l. omega (arith, length-append (signed_text (get_or zs i (pos 0))) [], signed_short (get_or zs i (pos 0)) (small.most i)))

-- The hour.

-- a pair's line and an open one have at most so many bytes, by a text of their own
pub record ShortLines (f : ReportLine → Text) (most_pair most_open : ℕ) : Type 0 where
  pub front : (l : ReportLine) → Front (f l)
  pub pairs : (d : Chars) (n : InternalSequence) (s : Chars) (cell : Item → ℤ) → is_label d ≡ true → n.0 < 1000 → is_label s ≡ true → SmallAmounts (pair_amounts cell)
      → length (f (pair d (pos n.0) s (pair_amounts cell)) []) ≤ most_pair
  pub opens : (s : Chars) (cell : OpenItem → ℤ) → is_label s ≡ true → SmallAmounts (open_amounts cell) → length (f (internal s (open_amounts cell)) []) ≤ most_open

module _ (f : ReportLine → Text) (most_pair most_open : ℕ) (short : ShortLines f most_pair most_open) (h : Hour) (p : Progress) (v : valid h ≡ true) (run : reconstructed h ≡ accepted p) where
  pair_most : (j : ℕ) → j < h.ndeliveries → (i : ℕ) → i < h.nsources → length (f (pair_line h p j i) []) ≤ most_pair
  pair_most j l i m =
      short.pairs (chars (delivery_at h j).label) (key_at (keys h) j).number (chars (source_at h i).label) (p.cells j i)
      ((hour_labels h v).deliveries j l) (numbers_below h (valid_sequences h v) j) ((hour_labels h v).sources i m) (pair_small h p v run j i l m)

  open_most : (i : ℕ) → i < h.nsources → length (f (open_line h p i) []) ≤ most_open
  open_most i m =
      short.opens (chars (source_at h i).label) (λ item. pos (open_amount item (get_or p.states i no_running))) ((hour_labels h v).sources i m) (open_small h p v run i m)

  front_pairs : (j : ℕ) → Front (pairs_text f h p j)
  front_pairs j = front_up_to (λ i. f (pair_line h p j i)) (λ i. short.front (pair_line h p j i)) h.nsources

  row_most : (j : ℕ) → j < h.ndeliveries → length (pairs_text f h p j []) ≤ 32 * most_pair
  row_most j l = entries_most (λ i. f (pair_line h p j i)) (λ i. short.front (pair_line h p j i)) most_pair h.nsources (valid_given h v).sources.few (pair_most j l)

  pub lines_most : length (lines_text f (hour_lines h p) []) ≤ length (f (header_line h) []) + 32 * (32 * most_pair) + 32 * most_open + length (f end [])
  lines_most =
      let last = f end [] in
      let opens = opens_text f h p last in
      let rows = up_to (pairs_text f h p) h.ndeliveries opens in
      let given = valid_given h v in
      omega (
        arith,
        ap length (hour_lines_lem f h p []),
        (short.front (header_line h)).longer rows,
        (front_up_to (pairs_text f h p) front_pairs h.ndeliveries).longer opens,
        entries_most (pairs_text f h p) front_pairs (32 * most_pair) h.ndeliveries given.deliveries.few row_most,
        (front_up_to (λ i. f (open_line h p i)) (λ i. short.front (open_line h p i)) h.nsources).longer last,
        entries_most (λ i. f (open_line h p i)) (λ i. short.front (open_line h p i)) most_open h.nsources given.sources.few open_most,
      )
