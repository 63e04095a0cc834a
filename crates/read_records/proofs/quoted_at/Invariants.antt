use mathlib.Core.Path.{◌≡◌}
use mathlib.Core.Bool.{false}
use Prim.Native.Nat.{◌-◌, ◌≤◌}
use lib.ListN.{length, take, drop}
use Rattle.rules.specs.Spreadsheet.{quoted}
use Rattle.read_records.proofs.Lists.{prefixed}
use Rattle.read_records.proofs.quoted_at.Given as goal

abbrev pub invariant-loop-character : goal.invariant-loop-character
invariant-loop-character l = (length l.bytes ≡ 16) × (l.n ≤ 16) × (prefixed (take l.n l.bytes) (quoted false l.p (drop l.p l.s)) ≡ quoted false l.at (drop l.at l.s))

abbrev pub decreases-loop-character : goal.decreases-loop-character
decreases-loop-character l = 16 - l.n
