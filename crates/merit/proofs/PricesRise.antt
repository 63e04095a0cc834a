-- W as changed rises by the price too, from the curve's start and b up, and so by steps that never fall.
use Rattle.std.specs.Prelude.{◌≡◌, ℕ, ◌+◌, ◌-◌, ◌≤◌, ◌<◌, max}
use Rattle.std.proofs.Common.{arith}
use Rattle.merit.specs.ChangedFromB.{Starts, changed_over}
use Rattle.rules.specs.Group.{changed}
use Rattle.rules.specs.declared.Running.{Running}
use Rattle.merit.specs.PricesRise.{price, curve_start, cost_step, steps_rise}

pub changed_step : (s : Running) → Starts s.plant → (m : ℕ) → s.b ≤ m → curve_start s.plant ≤ m → changed s (m + 1) ≡ changed s m + price s.plant (m + 1)
changed_step s z m h k = omega (arith, changed_over s z m h, changed_over s z (m + 1) (omega arith), cost_step s.plant m k)

-- the top MWh
pub changed_top : (s : Running) → Starts s.plant → (m : ℕ) → s.b < m → curve_start s.plant < m → changed s m - changed s (m - 1) ≡ price s.plant m
changed_top s z m h k =
    let e : m - 1 + 1 ≡ m = omega arith in
    omega (arith, rw e at (changed_step s z (m - 1) (omega arith) (omega arith)))

pub changed_rises : (s : Running) → Starts s.plant → (m : ℕ) → max s.b (curve_start s.plant) < m → changed s m - changed s (m - 1) ≤ changed s (m + 1) - changed s m
changed_rises s z m h =
    steps_rise (changed s) s.plant (max s.b (curve_start s.plant)) m (λ y l. changed_step s z y (omega arith) (omega arith)) h
