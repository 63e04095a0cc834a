-- Document 01, "What the promises must say": the first group treated rightly, and all later energy left open. The accounts close all the same, so that
-- balance alone would let it by.
use Rattle.std.specs.Prelude.{true, List, ◌≡◌, ℕ, ◌<◌, ℤ, take, drop}
use Rattle.std.proofs.Common.{take-append-drop}
use Rattle.rules.specs.Refusals.{Outcome, accepted, and_then}
use Rattle.rules.specs.Hour.{keys, turns, groups, opening, cells_of}
use Rattle.rules.specs.Writing.{valid}
use Rattle.rules.specs.declared.Hour.{Hour}
use Rattle.balance.specs.ValidHour.{valid_balances}
use Rattle.balance.specs.Balance.{Balances}
use Rattle.balance.proofs.Balance.{cells_balance}
use Rattle.balance.proofs.HourBalances.{groups_balanced}
use Rattle.balance.specs.KeysOfAnHour.{hour_turns}
use Rattle.laws.specs.Choices.{Both, then_passed, accepted_same}

-- the groups' first turn alone
unfoldable pub first_group : Hour → Outcome (List ℤ)
first_group h = and_then (groups h (keys h) (take 1 (turns (keys h))) (opening h)) λ p. accepted (cells_of h p)

pub first_group_balances : (h : Hour) → valid h ≡ true → (xs : List ℤ) → first_group h ≡ accepted xs → (i : ℕ) → i < h.nsources → Balances h xs i
unfolding first_group
first_group_balances h v xs e i l =
    let ts = turns (keys h) in
    let run = groups h (keys h) (take 1 ts) (opening h) in
    let b : Both run (λ p. accepted (cells_of h p)) xs = then_passed run (λ p. accepted (cells_of h p)) xs e in
    rw (← accepted_same (cells_of h b.mid) xs b.second)
    (cells_balance h (keys h) (drop 1 ts) b.mid (groups_balanced h (keys h) (valid_balances h v) (take 1 ts) (drop 1 ts) (rw (take-append-drop 1 ts) (hour_turns h)) b.mid b.first) i l)
