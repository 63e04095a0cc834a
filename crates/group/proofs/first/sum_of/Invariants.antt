use mathlib.Core.Path.{◌≡◌}
use Prim.Native.Nat.{◌*◌, ◌-◌, ◌≤◌}
use Rattle.cutoff.specs.Lines.{at}
use Rattle.rules.specs.Words.{sum_to}
use Rattle.group.proofs.first.sum_of.Given as goal

abbrev pub invariant-loop-i : goal.invariant-loop-i
invariant-loop-i l = (l.sum ≤ l.i * 2000) × (l.sum ≡ sum_to (at l.cap) l.i)
