-- From the curve's start up W rises by a price that never falls with the level: W(m) - W(m-1) <= W(m+1) - W(m).
-- So does W as changed, from the curve's start and b up. The price has a closed form, (2B + C(2m - 1))·R.
use Rattle.std.specs.Prelude.{◌≡◌, refl, ℕ, ◌+◌, ◌-◌, ◌*◌, ◌≤◌, ◌<◌}
use Rattle.std.proofs.Common.{mul-le-mul_left, mul-le-mul_right, arith, le-leb}
use Rattle.rules.specs.Units.{heat, curve_cost, cost}
use Rattle.rules.specs.declared.HeatCurve.{HeatCurve}
use Rattle.rules.specs.declared.Plant.{Plant}
use Rattle.rules.specs.declared.Plant.TheVariants.{Unit as U, Purchase as P, Fixed as F}

-- the price of the m-th MWh, from the curve's start up
unfoldable pub curve_price : HeatCurve → ℕ → ℕ
curve_price c m = (2 * c.b + c.c * (2 * m - 1)) * c.r

abbrev pub price : Plant → ℕ → ℕ
price (U u) m = curve_price u.curve m
price (P g rate) m = rate * 2000
price (F g) m = 0

abbrev pub curve_start : Plant → ℕ
curve_start (U u) = u.curve.k
curve_start (P g rate) = 0
curve_start (F g) = 0

pub curve_price_rises : (c : HeatCurve) (m z : ℕ) → m ≤ z → curve_price c m ≤ curve_price c z
unfolding curve_price
curve_price_rises c m z h =
    let odd : 2 * m - 1 ≤ 2 * z - 1 = omega arith in
    mul-le-mul_right c.r (omega (arith, mul-le-mul_left c.c odd))

pub price_rises : (p : Plant) (m z : ℕ) → m ≤ z → price p m ≤ price p z
price_rises (U u) m z h = curve_price_rises u.curve m z h
price_rises (P g rate) m z h = omega arith
price_rises (F g) m z h = omega arith

heat_step : (c : HeatCurve) (m : ℕ) → heat c (m + 1) ≡ heat c m + curve_price c (m + 1)
unfolding curve_price
heat_step c m =
    let odd : 2 * (m + 1) - 1 ≡ 2 * m + 1 = omega arith in
    rw odd (omega arith)

-- W rises by the price
pub cost_step : (p : Plant) (m : ℕ) → curve_start p ≤ m → cost p (m + 1) ≡ cost p m + price p (m + 1)
unfolding curve_cost
cost_step (U u) m h = rw (le-leb u.curve.k m h, le-leb u.curve.k (m + 1) (omega arith)) (heat_step u.curve m)
cost_step (P g rate) m h = omega arith
cost_step (F g) m h = refl

-- what rises by the price from some level up rises ever faster
pub steps_rise : (f : ℕ → ℕ) (p : Plant) (least m : ℕ) → ((z : ℕ) → least ≤ z → f (z + 1) ≡ f z + price p (z + 1)) → least < m → f m - f (m - 1) ≤ f (m + 1) - f m
steps_rise f p least m h l =
    let e : m - 1 + 1 ≡ m = omega arith in
    omega (arith, rw e at (h (m - 1) (omega arith)), h m (omega arith), price_rises p m (m + 1) (omega arith))

pub cost_rises : (p : Plant) (m : ℕ) → curve_start p < m → cost p m - cost p (m - 1) ≤ cost p (m + 1) - cost p m
cost_rises p m h = steps_rise (cost p) p (curve_start p) m (cost_step p) h
