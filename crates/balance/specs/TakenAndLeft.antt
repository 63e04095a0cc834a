-- One source through one group: what the group takes from it, directly and through the remainder, and what is left open make up what was open before.
-- So of MWh, and so of cost, where open energy is worth W at the level less what was charged for D.
use Rattle.std.specs.Prelude.{◌≡◌, refl, ℕ, ◌+◌, ◌-◌, pos, ◌+ℤ◌}
use Rattle.std.proofs.Math.Path.{ap}
use Rattle.std.proofs.Common.{arith}
use Rattle.balance.specs.Accounts.{Account, mwhs, grains, whole}
use Rattle.laws.specs.Signed.{value, taken_left}
use Rattle.merit.specs.ChangedFromB.{Starts, changed_over, changed_zero}
use Rattle.merit.specs.LevelNeverBelowB.{Sound, Took, Moved, moved_sound}
use Rattle.merit.proofs.LevelNeverBelowB.{charged_most, took_value}
use Rattle.rules.specs.Group.{level, changed, charged, opened, direct_mwh, incremental_mwh, direct_cost, incremental_cost, amount, open_cost}
use Rattle.rules.specs.Units.{cost, generation, generation_cost}
use Rattle.rules.specs.declared.Plant.{Plant}
use Rattle.rules.specs.declared.Running.{Running}

abbrev pub worth : Running → ℕ
worth s = changed s (level s) - charged s

-- "Open energy left on a source costs W(D + v) - W(D)": its worth
pub open_worth : (s : Running) → Sound s → open_cost s ≡ worth s
open_worth s g = let e : s.d + s.v ≡ level s = omega arith in omega (arith, ap (changed s) e)

-- at first, the cost of the source's generation
opened_worth : (p : Plant) → Starts p → worth (opened p) ≡ generation_cost p
opened_worth p z =
    let e : level (opened p) ≡ generation p = omega arith in
    let f : changed (opened p) (level (opened p)) ≡ cost p (level (opened p)) = changed_over (opened p) z (level (opened p)) (omega arith) in
    omega (arith, ap (cost p) e, changed_zero (opened p) z)

module _ (s t u : Running) (g : Sound s) (k : Took s t) (m : Moved t u) where
  pub group_mwh_lem : (value (amount direct_mwh s t u) +ℤ value (amount incremental_mwh s t u)) +ℤ pos u.v ≡ pos s.v
  group_mwh_lem =
      let e : u.d ≡ t.d = ap (λ (x : Running). x.d) m.is in
      taken_left (t.d - s.d) (level t) (level u) u.v s.v (omega (arith, k.level, k.more))

  pub group_cost : (value (amount direct_cost s t u) +ℤ value (amount incremental_cost s t u)) +ℤ pos (worth u) ≡ pos (worth s)
  unfolding changed
  group_cost =
      let e : charged u ≡ charged t = ap charged m.is in
      let p = charged_most s g in
      let q = charged_most u (moved_sound t u k.sound m) in
      let v = took_value s t g k in
      taken_left (charged t - charged s) (changed t (level t)) (changed u (level u)) (worth u) (worth s) (omega (arith, k.charged))

-- What is left of a source in an account.
abbrev pub left : Account → Running → ℕ
left mwhs s = s.v
left grains s = worth s

pub opened_left : (a : Account) (p : Plant) → Starts p → left a (opened p) ≡ whole a p
opened_left mwhs p z = refl
opened_left grains p z = opened_worth p z
