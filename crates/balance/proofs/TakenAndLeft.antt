-- What a group takes from one source and what is left open of it make up what was open before, in each account.
use Rattle.std.specs.Prelude.{◌≡◌, refl, pos, ◌+ℤ◌}
use Rattle.balance.specs.Accounts.{Account, mwhs, grains, direct, incremental, remaining}
use Rattle.laws.specs.Signed.{value}
use Rattle.merit.specs.LevelNeverBelowB.{Sound, Took, Moved}
use Rattle.rules.specs.Group.{amount, open_amount}
use Rattle.rules.specs.declared.Running.{Running}
use Rattle.balance.specs.TakenAndLeft.{open_worth, group_mwh_lem, group_cost, left}

pub open_left : (a : Account) (s : Running) → Sound s → open_amount (remaining a) s ≡ left a s
open_left mwhs s g = refl
open_left grains s g = open_worth s g

pub group_left : (a : Account) (s t u : Running) → Sound s → Took s t → Moved t u → (value (amount (direct a) s t u) +ℤ value (amount (incremental a) s t u)) +ℤ pos (left a u) ≡ pos (left a s)
group_left mwhs s t u g k m = group_mwh_lem s t u g k m
group_left grains s t u g k m = group_cost s t u g k m
