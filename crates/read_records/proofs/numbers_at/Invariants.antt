use mathlib.Core.Path.{◌≡◌}
use Prim.Native.Nat.{◌-◌, ◌≤◌}
use lib.ListN.{length, take}
use Rattle.rules.specs.Spreadsheet.{numbers_at}
use Rattle.read_records.proofs.Lists.{prefixed}
use Rattle.read_records.proofs.numbers_at.Given as goal

abbrev pub invariant-loop-i : goal.invariant-loop-i
invariant-loop-i g l = (length l.amounts ≡ g.row.N) × (l.i ≤ g.row.N) × (prefixed (take l.i l.amounts) (numbers_at (g.row.N - l.i) l.s l.p) ≡ numbers_at g.row.N l.s l.at)
