use Prim.Native.Nat.{◌-◌, ◌≤◌}
use Rattle.dispatch.specs.Taken.{Left}
use Rattle.dispatch.proofs.find_left.Given as goal

abbrev pub invariant-loop-i : goal.invariant-loop-i
invariant-loop-i l = (l.i ≤ l.n) × Left l.one l.step l.cap l.taken l.i l.left
