use mathlib.Core.Path.{◌≡◌}
use Prim.Native.Nat.{◌-◌, ◌≤◌}
use Rattle.write_spreadsheet.specs.Rows.{source_labels}
use Rattle.write_spreadsheet.proofs.source_labels.Given as goal

abbrev pub invariant-loop-i : goal.invariant-loop-i
invariant-loop-i l = (l.n ≤ 32) × (l.i ≤ l.n) × (l.labels ≡ source_labels l.h l.i)

abbrev pub decreases-loop-i : goal.decreases-loop-i
decreases-loop-i l = l.n - l.i
