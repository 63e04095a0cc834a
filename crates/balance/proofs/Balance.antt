-- Every answer balances. For each source, the signed MWh that deliveries get from it and its open MWh make up its generation; the signed costs and
-- the open cost make up W(g), the cost of its generation as it was before any direct allocation. Said of the answer's cells.
use Rattle.std.specs.Prelude.{List, [], ◌≡◌, ℕ, ◌<◌, ℤ, ◌+ℤ◌}
use Rattle.std.proofs.Common.{append-nil}
use Rattle.balance.specs.Accounts.{direct, incremental, remaining}
use Rattle.balance.specs.AnswerCells.{pair_cell, open_cell_lem, answer_cells}
use Rattle.balance.proofs.AnswerCells.{pair_cell_lem}
use Rattle.balance.specs.HourBalances.{Given, Balanced}
use Rattle.balance.proofs.HourBalances.{groups_balanced}
use Rattle.balance.specs.KeysOfAnHour.{hour_turns}
use Rattle.balance.proofs.TakenAndLeft.{open_left}
use Rattle.laws.specs.Signed.{sumℤ_same}
use Rattle.merit.specs.LevelNeverBelowB.{state_at}
use Rattle.rules.specs.Hour.{keys, turns, Progress, reconstructed, cells_of, answer}
use Rattle.rules.specs.Refusals.{accepted}
use Rattle.rules.specs.declared.Hour.{Hour}
use Rattle.rules.specs.declared.Key.{Key}
use Rattle.balance.specs.Balance.{Balances}

-- a whole run is balanced
pub run_balanced : (h : Hour) → Given h → (p : Progress) → reconstructed h ≡ accepted p → Balanced h (keys h) [] p
unfolding reconstructed
run_balanced h g p e = groups_balanced h (keys h) g (turns (keys h)) [] (rw (append-nil (turns (keys h))) (hour_turns h)) p e

-- wherever a run stands, its cells balance
pub cells_balance : (h : Hour) (ks xs : List Key) (p : Progress) → Balanced h ks xs p → (i : ℕ) → i < h.nsources → Balances h (cells_of h p) i
cells_balance h ks xs p b i l =
    record {
      closes = λ a.
          rw (
            sumℤ_same (λ j. pair_cell h (cells_of h p) j i (direct a) +ℤ pair_cell h (cells_of h p) j i (incremental a)) (λ j. p.cells j i (direct a) +ℤ p.cells j i (incremental a)) h.ndeliveries (λ j m. rw (pair_cell_lem h p j i (direct a) m l, pair_cell_lem h p j i (incremental a) m l)),
            open_cell_lem h p i (remaining a) l,
            open_left a (state_at p.states i) (b.sound i),
          )
          (b.closes a i);
    }

pub answer_balances : (h : Hour) → Given h → (xs : List ℤ) → answer h ≡ accepted xs → (i : ℕ) → i < h.nsources → Balances h xs i
answer_balances h g xs e i l =
    let a = answer_cells h xs e in
    rw a.is (cells_balance h (keys h) [] a.progress (run_balanced h g a.progress a.run) i l)
