-- For each accepted hour and each source, over the cells that its reconstruction leaves in the lent buffer: the signed MWh to deliveries and the open MWh
-- make up g, and the signed costs and the open cost make up W(g) as it was before any direct allocation. Every cell fits 64 signed bits.
use Rattle.std.specs.Prelude.{List, ◌++◌, ◌≡◌, ℕ, suc, ◌*◌, ◌≤◌, ◌<◌, ℤ, pos, ◌+ℤ◌, length, drop}
use Rattle.std.proofs.Common.{ap, mul-le-mul_right, arith, SFits}
use Rattle.std.proofs.Math.ListN.{get_or-append}
use Rattle.std.specs.Int.{w64}
use Rattle.balance.proofs.AccountsClose.{accounts_close}
use Rattle.balance.proofs.EveryCellFits.{every_cell_fits}
use Rattle.balance.specs.Accounts.{direct, incremental, remaining, item_place, open_item_place, item_within, open_item_within}
use Rattle.balance.specs.AnswerCells.{cell_at, pair_place, open_place, pair_cell, open_cell, answer_length}
use Rattle.balance.specs.Balance.{Balances}
use Rattle.laws.specs.Signed.{sumℤ_same}
use Rattle.rules.specs.Calls.{reconstruction, leaves}
use Rattle.rules.specs.Group.{Item, OpenItem}
use Rattle.rules.specs.Hour.{pair_width, cell_count}
use Rattle.rules.specs.Refusals.{Outcome, accepted}
use Rattle.rules.specs.declared.Hour.{Hour}
use Rattle.outcomes.specs.AccountsCloseOverTheCells.{accepted_whole}

-- cells that balance do so with more after them
module _ (h : Hour) (xs ys : List ℤ) (long : length xs ≡ cell_count h) where
  first : (k : ℕ) → k < cell_count h → cell_at (xs ++ ys) k ≡ cell_at xs k
  first k l = get_or-append xs ys (pos 0) k (omega (arith, long))

  pair : (j i : ℕ) (x : Item) → j < h.ndeliveries → i < h.nsources → pair_cell h (xs ++ ys) j i x ≡ pair_cell h xs j i x
  pair j i x a b =
      let rows : suc j * (h.nsources * pair_width) ≤ h.ndeliveries * (h.nsources * pair_width) = mul-le-mul_right (h.nsources * pair_width) a in
      first (pair_place h j i (item_place x)) (omega (arith, item_within x))

  left_open : (i : ℕ) (x : OpenItem) → i < h.nsources → open_cell h (xs ++ ys) i x ≡ open_cell h xs i x
  left_open i x b = first (open_place h i (open_item_place x)) (omega (arith, open_item_within x))

  balances_longer : (i : ℕ) → i < h.nsources → Balances h xs i → Balances h (xs ++ ys) i
  balances_longer i l b =
      record {
        closes = λ a.
            rw (
              sumℤ_same (λ j. pair_cell h (xs ++ ys) j i (direct a) +ℤ pair_cell h (xs ++ ys) j i (incremental a)) (λ j. pair_cell h xs j i (direct a) +ℤ pair_cell h xs j i (incremental a)) h.ndeliveries
                  (λ j m. rw (pair j i (direct a) m l, pair j i (incremental a) m l)),
              left_open i (remaining a) l,
            )
            (b.closes a);
      }

module _ (h : Hour) (entry xs : List ℤ) (e : reconstruction h (length entry) ≡ accepted xs) where
  left : leaves (reconstruction h (length entry)) entry ≡ xs ++ drop (length xs) entry
  left = ap (λ (o : Outcome (List ℤ)). leaves o entry) e

  pub accounts_close_over_the_cells : (i : ℕ) → i < h.nsources → Balances h (leaves (reconstruction h (length entry)) entry) i
  accounts_close_over_the_cells i l =
      let w = accepted_whole h (length entry) xs e in
      rw left (balances_longer h xs (drop (length xs) entry) (answer_length h xs w.whole) i l (accounts_close h w.given xs w.whole i l))

  pub every_written_cell_fits : (k : ℕ) → k < length xs → SFits w64 (cell_at (leaves (reconstruction h (length entry)) entry) k)
  every_written_cell_fits k l =
      let w = accepted_whole h (length entry) xs e in
      rw (left, get_or-append xs (drop (length xs) entry) (pos 0) k l) (every_cell_fits h w.given xs w.whole k)
