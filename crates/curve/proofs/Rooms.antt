-- Lows, room and headroom by the tests met.
use mathlib.Core.Bool.{true, false}
use mathlib.Core.Path.{◌≡◌, refl, sym}
use Prim.Native.Nat.{ℕ, ◌-◌, ◌≤◌, ◌<◌, max}
use native.Mathlib.Omega.{arith}
use borrow.Author.Tests.{le-leb, lt-leb}
use Rattle.rules.specs.Group.{level, floor, room, headroom}
use Rattle.rules.specs.Units.{normal_low, oil_low, emergency_low, movable}
use Rattle.rules.specs.declared.Plant.{Plant}
use Rattle.rules.specs.declared.Plant.TheVariants.{Unit as U, Purchase as P, Fixed as F}
use Rattle.rules.specs.declared.Running.{Running}
use Rattle.rules.specs.declared.Unit.{Unit}
use Rattle.curve.specs.Rungs.{rung_of, low_at}
use Rattle.curve.specs.declared.Rung.{Rung}
use Rattle.curve.specs.declared.Rung.TheVariants.{Normal, Oil, Emergency, Last}

pub no_low : (x : Rung) (p : Plant) → normal_low p ≡ 0 → oil_low p ≡ 0 → emergency_low p ≡ 0 → 0 ≡ low_at x p
no_low Normal p n o e = sym n
no_low Oil p n o e = sym o
no_low Emergency p n o e = sym e
no_low Last p n o e = refl

floor_is : (x : Rung) (s : Running) → max s.b (low_at x s.plant) - s.d ≡ floor (rung_of x) s
floor_is Normal s = refl
floor_is Oil s = refl
floor_is Emergency s = refl
floor_is Last s = omega arith

module _ (s : Running) where
  pub room_none : (x : Rung) → movable s.plant ≡ false → 0 ≡ room (rung_of x) s
  unfolding room
  room_none x e = rw e

  pub room_is : (x : Rung) → movable s.plant ≡ true → s.v - (max s.b (low_at x s.plant) - s.d) ≡ room (rung_of x) s
  unfolding room
  room_is x e = rw (e, floor_is x s)

  module _ (u : Unit) (e : s.plant ≡ U u) where
    pub unit_low : s.d < u.e - s.v → 0 ≡ headroom s
    unfolding headroom
    unit_low h = rw (e, lt-leb u.e (level s) (omega arith))

    pub unit_up : u.e - s.v ≤ s.d → u.h - s.v - s.d ≡ headroom s
    unfolding headroom
    unit_up h = rw (e, le-leb u.e (level s) (omega arith)) (omega arith)

  pub purchase_up : (g rate : ℕ) → s.plant ≡ P g rate → g - s.v ≡ headroom s
  unfolding headroom
  purchase_up g rate e = rw e

  pub fixed_up : (g : ℕ) → s.plant ≡ F g → 0 ≡ headroom s
  unfolding headroom
  fixed_up g e = rw e
