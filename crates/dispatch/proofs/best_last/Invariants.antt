use Prim.Native.Nat.{◌-◌, ◌≤◌}
use Rattle.dispatch.specs.Rivals.{Bar}
use Rattle.dispatch.proofs.best_last.Given as goal

abbrev pub invariant-loop-i : goal.invariant-loop-i
invariant-loop-i l = (l.i ≤ l.n) × Bar l.one l.step l.cap l.i l.total l.bar
