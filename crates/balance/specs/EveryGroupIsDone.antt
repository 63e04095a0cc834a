-- Of a valid hour: every delivery's group has its turn, and its number is below 1,000.
use Rattle.std.specs.Prelude.{true, ◌≡◌, ℕ, ◌<◌}
use Rattle.std.proofs.Common.{◌∙◌, arith}
use Rattle.balance.specs.KeysOfAnHour.{keys_length}
use Rattle.balance.specs.NumbersBelow1000.{numbers_below}
use Rattle.balance.specs.ValidHour.{valid_sequences, valid_balances}
use Rattle.laws.specs.Keys.{among, among_own, among_turns}
use Rattle.rules.specs.Hour.{key_at, keys, turns}
use Rattle.rules.specs.Writing.{valid}
use Rattle.rules.specs.declared.Hour.{Hour}

pub every_group_is_done : (h : Hour) → valid h ≡ true → (j : ℕ) → j < h.ndeliveries → among (turns (keys h)) (key_at (keys h) j) ≡ true
every_group_is_done h v j l = among_turns (keys h) (key_at (keys h) j) ∙ among_own (keys h) j (omega (arith, keys_length h, (valid_balances h v).long))

pub every_number_is_low : (h : Hour) → valid h ≡ true → (j : ℕ) → (key_at (keys h) j).number.0 < 1000
every_number_is_low h v j = numbers_below h (valid_sequences h v) j
