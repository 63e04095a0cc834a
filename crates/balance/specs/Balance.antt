-- Every answer balances. For each source, the signed MWh that deliveries get from it and its open MWh make up its generation; the signed costs and
-- the open cost make up W(g), the cost of its generation as it was before any direct allocation. Said of the answer's cells.
use Rattle.std.specs.Prelude.{List, ◌≡◌, ℕ, ℤ, pos, ◌+ℤ◌}
use Rattle.balance.specs.Accounts.{Account, direct, incremental, remaining, whole}
use Rattle.balance.specs.AnswerCells.{pair_cell, open_cell}
use Rattle.balance.specs.HourBalances.{plant_at}
use Rattle.laws.specs.Signed.{sumℤ}
use Rattle.rules.specs.declared.Hour.{Hour}

pub record Balances (h : Hour) (xs : List ℤ) (i : ℕ) : Type 0 where
  pub closes : (a : Account) → sumℤ (λ j. pair_cell h xs j i (direct a) +ℤ pair_cell h xs j i (incremental a)) h.ndeliveries +ℤ open_cell h xs i (remaining a) ≡ pos (whole a (plant_at h i))
