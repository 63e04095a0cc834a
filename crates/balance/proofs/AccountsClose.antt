-- For each accepted hour and each source, the signed MWh to deliveries and the open MWh make up its generation g, and the signed costs and the open cost
-- make up W(g) as it was before any direct allocation: of every valid hour record, over the answer's cells.
use Rattle.std.specs.Prelude.{true, List, ◌≡◌, ℕ, ◌<◌, ℤ}
use Rattle.balance.specs.ValidHour.{valid_balances}
use Rattle.balance.specs.Balance.{Balances}
use Rattle.balance.proofs.Balance.{answer_balances}
use Rattle.rules.specs.Hour.{answer}
use Rattle.rules.specs.Refusals.{accepted}
use Rattle.rules.specs.Writing.{valid}
use Rattle.rules.specs.declared.Hour.{Hour}

pub accounts_close : (h : Hour) → valid h ≡ true → (xs : List ℤ) → answer h ≡ accepted xs → (i : ℕ) → i < h.nsources → Balances h xs i
accounts_close h v xs e i l = answer_balances h (valid_balances h v) xs e i l
