-- Every cell of a valid hour's answer fits 64 signed bits.
use Rattle.std.specs.Prelude.{true, List, ◌≡◌, ℕ, ℤ}
use Rattle.std.specs.Int.{w64}
use Rattle.std.proofs.Common.{SFits}
use Rattle.balance.specs.ValidHour.{valid_balances, valid_small}
use Rattle.balance.specs.AnswerCells.{cell_at}
use Rattle.balance.proofs.CellsFit.{answer_fits}
use Rattle.rules.specs.Hour.{answer}
use Rattle.rules.specs.Refusals.{accepted}
use Rattle.rules.specs.Writing.{valid}
use Rattle.rules.specs.declared.Hour.{Hour}

pub every_cell_fits : (h : Hour) → valid h ≡ true → (xs : List ℤ) → answer h ≡ accepted xs → (k : ℕ) → SFits w64 (cell_at xs k)
every_cell_fits h v xs e k = answer_fits h (valid_balances h v) (valid_small h v) xs e k
