-- For each accepted hour and each source, over the cells that its reconstruction leaves in the lent buffer: the signed MWh to deliveries and the open MWh
-- make up g, and the signed costs and the open cost make up W(g) as it was before any direct allocation. Every cell fits 64 signed bits.
use Rattle.std.specs.Prelude.{true, not, List, ◌≡◌, ℕ, ◌≤◌, ltb, ℤ, length}
use Rattle.std.proofs.Common.{arith}
use Rattle.balance.specs.AnswerCells.{answer_length}
use Rattle.laws.specs.Choices.{not_false, refuse_passed}
use Rattle.rules.specs.Calls as calls
use Rattle.rules.specs.Calls.{reconstruction}
use Rattle.rules.specs.Hour.{cell_count, answer}
use Rattle.rules.specs.Refusals.{accepted, refuse}
use Rattle.rules.specs.Writing.{valid}
use Rattle.rules.specs.declared.Hour.{Hour}
use Rattle.rules.specs.declared.Refusal.TheVariants.{Short, NoDeck}
use Rattle.balance.specs.CellsAreFew.{most_cells, count_few}

-- an hour whose reconstruction is accepted: a valid one, whose answer are these cells
pub record Whole (h : Hour) (xs : List ℤ) : Type 0 where
  pub given : valid h ≡ true
  pub whole : answer h ≡ accepted xs
  pub few : length xs ≤ most_cells

pub accepted_whole : (h : Hour) (size : ℕ) (xs : List ℤ) → reconstruction h size ≡ accepted xs → Whole h xs
unfolding calls.reconstruction calls.cells_for
accepted_whole h size xs e =
    let a = refuse_passed (not (valid h)) NoDeck (refuse (ltb size (cell_count h)) Short (answer h)) xs e in
    let b = refuse_passed (ltb size (cell_count h)) Short (answer h) xs a.1 in
    let v = not_false (valid h) a.0 in
    record { given = v; whole = b.1; few = omega (arith, answer_length h xs b.1, count_few h v) }
