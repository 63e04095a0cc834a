use Prim.Native.Nat.{◌+◌, ◌-◌, ◌*◌, ◌≤◌}
use lib.ListN.{length}
use Rattle.rules.specs.Hour.{open_width}
use Rattle.write_fields.specs.Inked.{Inked, up_to}
use Rattle.print_report.specs.Rows.{open_at}
use Rattle.print_report.proofs.put_opens.Given as goal

abbrev pub invariant-loop-i : goal.invariant-loop-i
invariant-loop-i l = (l.n ≤ 32) × (l.i ≤ l.n) × (l.base + l.n * open_width ≤ length l.cells) × Inked l.initial.buf l.at l.buf l.p (up_to (open_at l.deck l.sources l.cells l.base) l.i)

abbrev pub decreases-loop-i : goal.decreases-loop-i
decreases-loop-i l = l.n - l.i
