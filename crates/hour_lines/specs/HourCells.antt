-- An hour that was reconstructed, its keys and its cells: the amounts of its lines, one by one.
use Rattle.std.specs.Prelude.{◌≡◌, true, List, ◌++◌, ℕ, ◌+◌, ◌*◌, ◌≤◌, ◌<◌, ℤ, pos, length, get_or}
use Rattle.std.proofs.Common.{ap, ◌∙◌, mul-le-mul_right, arith, length-append}
use Rattle.std.proofs.Math.Path.{fun_ext}
use Rattle.std.proofs.Math.ListN.{get_or-append}
use Rattle.rules.specs.Refusals.{accepted}
use Rattle.rules.specs.Group.{no_running, open_amount}
use Rattle.rules.specs.Hour as hours
use Rattle.rules.specs.Hour.{pair_width, open_width, keys, key_at, Progress, reconstructed, cells_of, cell_count, answer}
use Rattle.rules.specs.Report.{pair_amounts, open_amounts}
use Rattle.rules.specs.Writing.{valid}
use Rattle.rules.specs.declared.Hour.{Hour}
use Rattle.rules.specs.declared.Key.{Key}
use Rattle.roundtrip.specs.GivenHour.{GivenHour, valid_given}
use Rattle.balance.specs.Accounts.{item_place, open_item_place, item_within, open_item_within}
use Rattle.balance.specs.AnswerCells.{cell_at, pair_place, open_place, open_cell_lem, cells_length}
use Rattle.balance.proofs.AnswerCells.{pair_cell_lem}
use Rattle.balance.specs.CellsAreFew.{cells_few}
use Rattle.balance.specs.CellsFit.{SmallCell}
use Rattle.balance.proofs.CellsFit.{answer_small}
use Rattle.balance.specs.ValidHour.{valid_balances, valid_small}
use Rattle.hour_lines.specs.LineAmounts.{SmallFirst, fewer_small, pair_from, open_from, SmallAmounts, pair_amounts_small, open_amounts_small}

-- one row of the cells of m
pub row_within : (j m w : ℕ) → j < m → j * w + w ≤ m * w
row_within j m w h = let k : j + 1 ≤ m = omega arith in omega (arith, mul-le-mul_right w k)

pub row_small : (cells : List ℤ) (j m w : ℕ) → j < m → SmallFirst cells (m * w) → SmallFirst cells (j * w + w)
row_small cells j m w h = fewer_small (j * w + w) (row_within j m w h)

-- the cells of i and those before it, of n that have w each from a place on
pub part_small : (cells : List ℤ) (base i n w : ℕ) → i < n → SmallFirst cells (base + n * w) → SmallFirst cells (base + i * w + w)
part_small cells base i n w h = fewer_small (base + i * w + w) (omega (arith, row_within i n w h))

module _ (h : Hour) (p : Progress) (v : valid h ≡ true) (run : reconstructed h ≡ accepted p) where
  -- all cells are small
  pub small_cells : (k : ℕ) → SmallCell (cell_at (cells_of h p) k)
  unfolding hours.answer
  small_cells k = let a : answer h ≡ accepted (cells_of h p) = rw run in answer_small h (valid_balances h v) (valid_small h v) (cells_of h p) a k

  small_at : (k : ℕ) (z : ℤ) → cell_at (cells_of h p) k ≡ z → SmallCell z
  small_at k z e = rw e at (small_cells k)

  -- and so are the amounts of a line
  pub pair_small : (j i : ℕ) → j < h.ndeliveries → i < h.nsources → SmallAmounts (pair_amounts (p.cells j i))
  pair_small j i l m = pair_amounts_small (p.cells j i) (λ item. small_at (pair_place h j i (item_place item)) _ (pair_cell_lem h p j i item l m))

  pub open_small : (i : ℕ) → i < h.nsources → SmallAmounts (open_amounts λ item. pos (open_amount item (get_or p.states i no_running)))
  open_small i m = open_amounts_small (λ item. pos (open_amount item (get_or p.states i no_running))) (λ item. small_at (open_place h i (open_item_place item)) _ (open_cell_lem h p i item m))

-- what its reconstruction left in cells, and keys that are its deliveries'
pub record Answered (h : Hour) (ks : List Key) (cells : List ℤ) : Type 0 where
  pub valid : valid h ≡ true
  pub progress : Progress
  pub run : reconstructed h ≡ accepted progress
  pub after : List ℤ
  pub is : cells ≡ cells_of h progress ++ after
  pub numbered : (j : ℕ) → j < h.ndeliveries → (key_at ks j).number ≡ (key_at (keys h) j).number

module _ {h : Hour} {ks : List Key} {cells : List ℤ} (a : Answered h ks cells) where
  abbrev p : Progress
  p = a.progress

  pub given : GivenHour h
  given = valid_given h a.valid

  -- the cells that were found, one by one
  cell_is : (k : ℕ) → k < cell_count h → cell_at cells k ≡ cell_at (cells_of h p) k
  cell_is k l = ap (λ (xs : List ℤ). cell_at xs k) a.is ∙ get_or-append (cells_of h p) a.after (pos 0) k (omega (arith, cells_length h p))

  enough : cell_count h ≤ length cells
  enough = omega (arith, ap length a.is, length-append (cells_of h p) a.after, cells_length h p)

  -- all are small; those of the pairs come first
  pub small : SmallFirst cells (cell_count h)
  small = record { there = enough; small = λ k l. let e = cell_is k l in rw e (small_cells h p a.valid a.run k) }

  pub pairs_small : SmallFirst cells (h.ndeliveries * (h.nsources * pair_width))
  pairs_small = fewer_small (h.ndeliveries * (h.nsources * pair_width)) (omega arith) small

  -- where the open lines' cells begin
  pub base_fits : h.ndeliveries * (h.nsources * pair_width) ≤ 32 * (32 * pair_width)
  base_fits = cells_few h a.valid

  pub pairs_are : (j i : ℕ) → j < h.ndeliveries → i < h.nsources → pair_from cells (j * (h.nsources * pair_width) + i * pair_width) ≡ p.cells j i
  pairs_are j i l m =
      fun_ext (λ item.
      let within = item_within item in
      let at : j * (h.nsources * pair_width) + i * pair_width + item_place item ≡ pair_place h j i (item_place item) = omega arith in
      ap (cell_at cells) at ∙ cell_is (pair_place h j i (item_place item)) (omega (arith, row_within j h.ndeliveries (h.nsources * pair_width) l)) ∙ pair_cell_lem h p j i item l m)

  pub opens_are : (i : ℕ) → i < h.nsources → open_from cells (h.ndeliveries * (h.nsources * pair_width) + i * open_width) ≡ (λ item. pos (open_amount item (get_or p.states i no_running)))
  opens_are i m =
      fun_ext (λ item.
      let within = open_item_within item in
      let at : h.ndeliveries * (h.nsources * pair_width) + i * open_width + open_item_place item ≡ open_place h i (open_item_place item) = omega arith in
      ap (cell_at cells) at ∙ cell_is (open_place h i (open_item_place item)) (omega arith) ∙ open_cell_lem h p i item m)
