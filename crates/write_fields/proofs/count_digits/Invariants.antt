use mathlib.Core.Path.{◌≡◌}
use Prim.Native.Nat.{◌+◌, ◌-◌, ◌≤◌}
use lib.ListN.{length}
use Rattle.rules.specs.Fields.{digits}
use Rattle.write_fields.specs.Lengths.{tens}
use Rattle.write_fields.proofs.count_digits.Given as goal

abbrev pub invariant-loop-power : goal.invariant-loop-power
invariant-loop-power l = (l.power ≡ tens l.n) × (l.n + 1 ≤ length (digits l.v))

abbrev pub decreases-loop-power : goal.decreases-loop-power
decreases-loop-power l = 20 - l.n
