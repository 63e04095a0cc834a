-- Where each cell of an answer stands, and how many cells there are: "For each delivery, then each source .. After them, for each source".
use mathlib.Core.List.{List, [], ◌++◌, append-nil}
use Rattle.std.specs.Prelude.{◌≡◌, refl, ℕ, ◌+◌, ◌*◌, ◌<◌, ℤ, pos}
use Rattle.std.proofs.Common.{sym, ◌∙◌, arith}
use Rattle.std.proofs.Math.Path.{ap}
use Rattle.std.proofs.Math.ListN.{length, get_or, length-append}
use Rattle.std.proofs.Math.Seq.{get_or-append-add}
use Rattle.balance.specs.Accounts.{item_place, open_item_place, open_item_within, open_item_read}
use Rattle.laws.specs.Choices.{accepted_same, Both, then_passed}
use Rattle.laws.specs.Sums.{list_to_length, list_to_read}
use Rattle.merit.specs.LevelNeverBelowB.{state_at}
use Rattle.rules.specs.Group.{Item, OpenItem, open_amount}
use Rattle.rules.specs.Hour.{Progress, reconstructed, pair_cells, open_cells, pair_width, open_width, cells_of, cell_count, answer}
use Rattle.rules.specs.Refusals.{accepted}
use Rattle.rules.specs.Words.{list_to}
use Rattle.rules.specs.declared.Hour.{Hour}

abbrev pub cell_at : List ℤ → ℕ → ℤ
cell_at xs k = get_or xs k (pos 0)

-- the place of cell k of delivery j and source i, and of cell k of source i's open energy
abbrev pub pair_place : Hour → ℕ → ℕ → ℕ → ℕ
pair_place h j i k = j * (h.nsources * pair_width) + (i * pair_width + k)

abbrev pub open_place : Hour → ℕ → ℕ → ℕ
open_place h i k = h.ndeliveries * (h.nsources * pair_width) + (i * open_width + k)

-- a pair's cell of an item, and a source's open one
abbrev pub pair_cell : Hour → List ℤ → ℕ → ℕ → Item → ℤ
pair_cell h xs j i x = cell_at xs (pair_place h j i (item_place x))

abbrev pub open_cell : Hour → List ℤ → ℕ → OpenItem → ℤ
open_cell h xs i x = cell_at xs (open_place h i (open_item_place x))

module _ (h : Hour) (p : Progress) where
  abbrev row : ℕ → List ℤ
  row j = list_to (pair_cells p.cells j) h.nsources

  row_length : (j : ℕ) → length (row j) ≡ h.nsources * pair_width
  row_length j = list_to_length (pair_cells p.cells j) pair_width (λ k. refl) h.nsources

  rows_length : length (list_to row h.ndeliveries) ≡ h.ndeliveries * (h.nsources * pair_width)
  rows_length = list_to_length row (h.nsources * pair_width) row_length h.ndeliveries

  pub pair_at : (j i k : ℕ) → j < h.ndeliveries → i < h.nsources → k < pair_width → cell_at (cells_of h p) (pair_place h j i k) ≡ get_or (pair_cells p.cells j i) k (pos 0)
  unfolding cells_of
  pair_at j i k a b c =
      list_to_read row (h.nsources * pair_width) row_length h.ndeliveries j (i * pair_width + k) (pos 0) (list_to (open_cells p.states) h.nsources) a (omega arith) ∙
      ap (λ (x : List ℤ). get_or x (i * pair_width + k) (pos 0)) (sym (append-nil (row j))) ∙ list_to_read (pair_cells p.cells j) pair_width (λ y. refl) h.nsources i k (pos 0) [] b c

  pub open_at : (i k : ℕ) → i < h.nsources → k < open_width → cell_at (cells_of h p) (open_place h i k) ≡ get_or (open_cells p.states i) k (pos 0)
  unfolding cells_of
  open_at i k b c =
      let z : open_place h i k ≡ length (list_to row h.ndeliveries) + (i * open_width + k) = omega (arith, rows_length) in
      ap (cell_at (list_to row h.ndeliveries ++ list_to (open_cells p.states) h.nsources)) z ∙
      get_or-append-add (list_to row h.ndeliveries) (list_to (open_cells p.states) h.nsources) (i * open_width + k) (pos 0) ∙
      ap (λ (x : List ℤ). get_or x (i * open_width + k) (pos 0)) (sym (append-nil (list_to (open_cells p.states) h.nsources))) ∙
      list_to_read (open_cells p.states) open_width (λ y. refl) h.nsources i k (pos 0) [] b c

  pub open_cell_lem : (i : ℕ) (x : OpenItem) → i < h.nsources → open_cell h (cells_of h p) i x ≡ pos (open_amount x (state_at p.states i))
  open_cell_lem i x b = open_at i (open_item_place x) b (open_item_within x) ∙ open_item_read (λ y. pos (open_amount y (state_at p.states i))) x

  pub cells_length : length (cells_of h p) ≡ cell_count h
  unfolding cells_of
  cells_length =
      length-append (list_to row h.ndeliveries) (list_to (open_cells p.states) h.nsources) ∙
      omega (arith, rows_length, list_to_length (open_cells p.states) open_width (λ k. refl) h.nsources)

-- an answer's cells are those of a whole run
pub record Answered (h : Hour) (xs : List ℤ) : Type 0 where
  pub progress : Progress
  pub run : reconstructed h ≡ accepted progress
  pub is : xs ≡ cells_of h progress

pub answer_cells : (h : Hour) (xs : List ℤ) → answer h ≡ accepted xs → Answered h xs
unfolding answer
answer_cells h xs e =
    let b : Both (reconstructed h) (λ p. accepted (cells_of h p)) xs = then_passed (reconstructed h) (λ p. accepted (cells_of h p)) xs e in
    record { progress = b.mid; run = b.first; is = sym (accepted_same (cells_of h b.mid) xs b.second) }

pub answer_length : (h : Hour) (xs : List ℤ) → answer h ≡ accepted xs → length xs ≡ cell_count h
answer_length h xs e = let a = answer_cells h xs e in ap length a.is ∙ cells_length h a.progress
