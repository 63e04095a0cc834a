use mathlib.Core.Path.{◌≡◌}
use Prim.Native.Nat.{◌≤◌}
use Rattle.members.specs.Members.{scheduled_in}
use Rattle.members.proofs.total_of.Given as goal

abbrev pub invariant-loop-j : goal.invariant-loop-j
invariant-loop-j l = (l.j ≤ l.n) × (l.sum ≡ scheduled_in l.mwhs l.keys l.key l.j)
