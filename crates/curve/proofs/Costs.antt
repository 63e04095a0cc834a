-- W and W as changed by the tests met.
use mathlib.Core.Bool.{true, false}
use mathlib.Core.Path.{◌≡◌, sym, ◌∙◌}
use Prim.Native.Nat.{ℕ, ◌*◌, ◌/◌, ◌≤◌, ◌<◌}
use native.Mathlib.Omega.{arith}
use borrow.Author.Tests.{le-leb, lt-leb}
use Rattle.merit.specs.ChangedFromB.{changed_is}
use Rattle.merit.specs.NumbersStaySmall.{CurveSmall, cost_small}
use Rattle.rules.specs.Group.{changed}
use Rattle.rules.specs.Units.{heat, curve_cost, cost}
use Rattle.rules.specs.declared.HeatCurve.{HeatCurve}
use Rattle.rules.specs.declared.Plant.TheVariants.{Unit as U}
use Rattle.rules.specs.declared.Running.{Running}
use Rattle.rules.specs.declared.Unit.{Unit}

module _ (c : HeatCurve) (m : ℕ) where
  -- a curve's cost is that of a unit with the curve
  pub curve_small : CurveSmall c → m ≤ 4000 → curve_cost c m ≤ 100_000_000_000_000
  curve_small l h =
      let u : Unit = record { g = 0; h = 0; n = 0; o = 0; e = 0; curve = c } in
      cost_small (U u) (record { g = omega arith; h = omega arith; curve = l }) m h

  pub from_start : c.k ≤ m → heat c m ≡ curve_cost c m
  unfolding curve_cost
  from_start h = rw (le-leb c.k m h)

  pub below_start : m < c.k → heat c c.k * m / c.k ≡ curve_cost c m
  unfolding curve_cost
  below_start h = rw (lt-leb c.k m h)

module _ (s : Running) (m : ℕ) where
  pub not_based : s.based ≡ false → cost s.plant m ≡ changed s m
  unfolding changed
  not_based e = rw e

  pub above_b : s.based ≡ true → s.b < m → cost s.plant m ≡ changed s m
  unfolding changed
  above_b e h = rw (e, lt-leb m s.b h)

  pub to_b : s.based ≡ true → m ≤ s.b → cost s.plant s.b * m / s.b ≡ changed s m
  to_b e h = sym (changed_is s m ∙ rw (e, le-leb m s.b h))
