-- What each sum and product of a heat is at most, up to the level 4,000.
use Prim.Native.Nat.{ℕ, ◌+◌, ◌*◌, ◌≤◌}
use native.Mathlib.Nat.{mul-le-mul, mul-le-mul_left}
use native.Mathlib.Omega.{arith}
use Rattle.merit.specs.NumbersStaySmall.{CurveSmall}
use Rattle.rules.specs.Units.{heat}
use Rattle.rules.specs.declared.HeatCurve.{HeatCurve}

module _ (c : HeatCurve) (m : ℕ) (l : CurveSmall c) (h : m ≤ 4000) where
  pub bm_small : 2 * c.b * m ≤ 799_992_000
  bm_small = mul-le-mul (mul-le-mul_left 2 l.b) h

  pub cm_small : c.c * m ≤ 396_000
  cm_small = mul-le-mul l.c h

  pub cmm_small : c.c * m * m ≤ 1_584_000_000
  cmm_small = mul-le-mul cm_small h

  pub sum_small : 2 * c.a + 2 * c.b * m + c.c * m * m ≤ 2_400_000_000
  sum_small = omega (arith, l.a, bm_small, cmm_small)

  pub heat_small : heat c m ≤ 100_000_000_000_000
  heat_small = omega (arith, mul-le-mul sum_small l.r)
