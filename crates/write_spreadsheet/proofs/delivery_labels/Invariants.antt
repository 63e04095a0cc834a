use mathlib.Core.Path.{◌≡◌}
use Prim.Native.Nat.{◌-◌, ◌≤◌}
use Rattle.write_spreadsheet.specs.Rows.{delivery_labels}
use Rattle.write_spreadsheet.proofs.delivery_labels.Given as goal

abbrev pub invariant-loop-j : goal.invariant-loop-j
invariant-loop-j l = (l.m ≤ 32) × (l.j ≤ l.m) × (l.labels ≡ delivery_labels l.h l.j)

abbrev pub decreases-loop-j : goal.decreases-loop-j
decreases-loop-j l = l.m - l.j
