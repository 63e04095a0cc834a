use mathlib.Core.Path.{◌≡◌}
use mathlib.Core.List.{[]}
use Prim.Native.Nat.{◌-◌, ◌≤◌}
use lib.ListN.{length}
use Rattle.write_fields.specs.Inked.{up_to}
use Rattle.print_report.specs.Rows.{row_at}
use Rattle.print_report.proofs.rows_length.Given as goal

abbrev pub invariant-loop-j : goal.invariant-loop-j
invariant-loop-j l = (l.n ≤ 32) × (l.m ≤ 32) × (l.j ≤ l.m) × (l.size ≡ length (up_to (row_at l.deck l.sources l.n l.deliveries l.keys l.cells) l.j []))

abbrev pub decreases-loop-j : goal.decreases-loop-j
decreases-loop-j l = l.m - l.j
