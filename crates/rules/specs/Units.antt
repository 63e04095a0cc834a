-- Document 01, "Units, curves and money". Money is in grains, 20,000,000 to the dollar.
use Rattle.std.specs.Prelude.{Bool, true, false, not, ◌&&◌, ℕ, ◌+◌, ◌*◌, ◌/◌, leb}
use Rattle.rules.specs.Words.{when◌then◌else◌}
use Rattle.rules.specs.Refusals.{Outcome, accepted, refuse}
use Rattle.rules.specs.Ranges.{inside, unit_level, coefficient_a, coefficient_b, coefficient_c, heat_rate, cost_level}
use Rattle.rules.specs.declared.HeatCurve.{HeatCurve}
use Rattle.rules.specs.declared.Unit.{Unit}
use Rattle.rules.specs.declared.Plant.{Plant}
use Rattle.rules.specs.declared.Plant.TheVariants.{Unit as U, Purchase as P, Fixed as F}
use Rattle.rules.specs.declared.Refusal.TheVariants.{Range}

-- "(2A + 2B·m + C·m²)·R grains"
abbrev pub heat : HeatCurve → ℕ → ℕ
heat c m = (2 * c.a + 2 * c.b * m + c.c * m * m) * c.r

-- "Cost at level m, from the curve's start k up .. Below k: (cost at k)·m/k, rounded down."
unfoldable pub curve_cost : HeatCurve → ℕ → ℕ
curve_cost c m = when leb c.k m then heat c m else heat c c.k * m / c.k

-- "Call this W(m)"; "P: each MWh costs rate·2,000 grains"; "F: .. no cost"
abbrev pub cost : Plant → ℕ → ℕ
cost (U u) m = curve_cost u.curve m
cost (P g rate) m = rate * 2000 * m
cost (F g) m = 0

abbrev pub generation : Plant → ℕ
generation (U u) = u.g
generation (P g rate) = g
generation (F g) = g

-- "The cost of a source's generation is W(g) as it was before any direct allocation replaced it"
abbrev pub generation_cost : Plant → ℕ
generation_cost p = cost p (generation p)

-- "oil point low, normal low", "emergency low"; of P, "its lows are 0"
abbrev pub normal_low : Plant → ℕ
normal_low (U u) = u.n
normal_low (P g rate) = 0
normal_low (F g) = 0

abbrev pub oil_low : Plant → ℕ
oil_low (U u) = u.o
oil_low (P g rate) = 0
oil_low (F g) = 0

abbrev pub emergency_low : Plant → ℕ
emergency_low (U u) = u.e
emergency_low (P g rate) = 0
emergency_low (F g) = 0

-- "F: never moved"
abbrev pub movable : Plant → Bool
movable (U u) = true
movable (P g rate) = true
movable (F g) = false

abbrev pub is_unit : Plant → Bool
is_unit (U u) = true
is_unit (P g rate) = false
is_unit (F g) = false

-- "A unit needs k <= e <= o <= n <= g <= h"
abbrev pub ordered : Unit → Bool
ordered u = leb u.curve.k u.e && leb u.e u.o && leb u.o u.n && leb u.n u.g && leb u.g u.h

abbrev pub levelled : Plant → Bool
levelled (U u) = ordered u
levelled (P g rate) = true
levelled (F g) = true

-- "A heat curve is made only from coefficients within these ranges."
abbrev pub curve_inside : HeatCurve → Bool
curve_inside c = inside unit_level c.k && inside coefficient_a c.a && inside coefficient_b c.b && inside coefficient_c c.c && inside heat_rate c.r

-- "Any other public call (making a curve, a cost at a level 0..2,000), handed a number outside its range, gives 3 with place 0."
abbrev pub curve_made : HeatCurve → Outcome HeatCurve
curve_made c = refuse (not (curve_inside c)) (Range 0) (accepted c)

abbrev pub cost_asked : HeatCurve → ℕ → Outcome ℕ
cost_asked c m = refuse (not (curve_inside c && inside cost_level m)) (Range 0) (accepted (curve_cost c m))
