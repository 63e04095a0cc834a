use Prim.Native.Nat.{◌-◌, ◌≤◌}
use Rattle.dispatch.specs.Taken.{Above, Left}
use Rattle.dispatch.proofs.take_above.Given as goal

abbrev pub invariant-loop-i : goal.invariant-loop-i
invariant-loop-i l = (l.i ≤ l.n) × Above l.one l.step l.span l.inv l.i l.mark l.initial.taken l.taken × Left l.one l.step l.cap l.taken l.i l.left
