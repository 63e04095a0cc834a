-- "A group's net MWh equals its total": of every valid hour record, over the answer's cells of the group of any delivery.
use Rattle.std.specs.Prelude.{true, List, ◌≡◌, ℕ, ◌<◌, ℤ, pos, ◌+ℤ◌}
use Rattle.std.proofs.Common.{arith}
use Rattle.balance.specs.ValidHour.{valid_balances}
use Rattle.balance.specs.AnswerCells.{pair_cell}
use Rattle.balance.proofs.NetIsTotal.{answer_net}
use Rattle.laws.specs.Keys.{key_itself}
use Rattle.laws.specs.Signed.{sumℤ}
use Rattle.laws.specs.Sums.{sum_to_part}
use Rattle.rules.specs.Group.{direct_mwh, incremental_mwh}
use Rattle.rules.specs.Hour.{key_at, member, scheduled, counted, keys, answer}
use Rattle.rules.specs.Refusals.{accepted}
use Rattle.rules.specs.Words.{when◌then◌else◌}
use Rattle.rules.specs.Writing.{valid}
use Rattle.rules.specs.declared.Hour.{Hour}
use Rattle.rules.specs.declared.Key.{Key}

-- a delivery is a member of its own group
member_counts : (ks : List Key) (n j : ℕ) → j < n → 0 < counted ks (key_at ks j) n
member_counts ks n j l =
    let x = key_at ks j in
    let one : ◌≡◌ {A = ℕ} (when member ks x j then 1 else 0) 1 = rw (key_itself x) in
    omega (arith, sum_to_part (λ i. when member ks x i then 1 else 0) n j l, one)

pub net_mwh_is_the_total : (h : Hour) → valid h ≡ true → (xs : List ℤ) → answer h ≡ accepted xs → (k : ℕ) → k < h.ndeliveries →
    sumℤ (λ i. sumℤ (λ j. when member (keys h) (key_at (keys h) k) j then pair_cell h xs j i direct_mwh +ℤ pair_cell h xs j i incremental_mwh else pos 0) h.ndeliveries) h.nsources ≡
    pos (scheduled h (keys h) (key_at (keys h) k) h.ndeliveries)
net_mwh_is_the_total h v xs e k l =
    answer_net h (valid_balances h v) xs e (key_at (keys h) k) (member_counts (keys h) h.ndeliveries k l)
