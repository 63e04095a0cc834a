use mathlib.Core.Path.{◌≡◌}
use Prim.Native.Nat.{◌-◌, ◌≤◌}
use lib.ListN.{length}
use Rattle.cutoff.specs.Lines.{lanes, Table}
use Rattle.dispatch.proofs.scale.Given as goal

abbrev pub invariant-loop-i : goal.invariant-loop-i
invariant-loop-i l = (l.i ≤ l.n) × (length l.span ≡ lanes) × (length l.inv ≡ lanes) × Table l.one l.step l.span l.inv l.cap l.i
