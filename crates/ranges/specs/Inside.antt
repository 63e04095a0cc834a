-- Document 01, "number outside its range" (3), of the numbers that an entry holds.
use Rattle.std.specs.Prelude.{Bool, ◌&&◌, [], ℕ, Option, Some, None}
use Rattle.rules.specs.Words.{when◌then◌else◌}
use Rattle.rules.specs.Ranges.{inside, unit_level}
use Rattle.rules.specs.Lines.{H, T, D, fields_of, ranged}
use Rattle.rules.specs.Record.{plant_line}
use Rattle.rules.specs.declared.Unit.{Unit}
use Rattle.rules.specs.declared.Plant.{Plant}
use Rattle.rules.specs.declared.Plant.TheVariants.{Unit as U}
use Rattle.rules.specs.declared.Basis.{Basis}
use Rattle.roundtrip.specs.Lines.{line_ranged}
use Rattle.ranges.specs.declared.UnitNumbers.{UnitNumbers}

-- the numbers of a source, a T line and a D line
unfoldable pub plant_inside : Plant → Bool
plant_inside p = line_ranged (plant_line p [])

unfoldable pub delivery_inside : ℕ → ℕ → ℕ → ℕ → Bool
delivery_inside sequence kind block mwh = ranged (fields_of T) (sequence, (kind, (block, (mwh, ([], tt)))))

unfoldable pub direct_inside : Basis → ℕ → Bool
direct_inside b percent = ranged (fields_of D) (b, (percent, ([], ([], tt))))

unfoldable pub losses_inside : ℕ → Bool
losses_inside losses = ranged (fields_of H) (losses, tt)

-- A unit's line.

-- its levels, beside the curve's start
abbrev pub levels_inside : ℕ → ℕ → ℕ → ℕ → ℕ → Bool
levels_inside g h n o e = inside unit_level g && inside unit_level h && inside unit_level n && inside unit_level o && inside unit_level e

-- the unit that its numbers make
abbrev pub unit_made : UnitNumbers → Unit
unit_made x = record { g = x.g; h = x.h; n = x.n; o = x.o; e = x.e; curve = record { k = x.k; a = x.a; b = x.b; c = x.c; r = x.r } }

-- that unit, where every number is in its range
abbrev pub judged : UnitNumbers → Option Unit
judged x = when plant_inside (U (unit_made x)) then Some (unit_made x) else None
