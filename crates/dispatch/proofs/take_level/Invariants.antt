use Prim.Native.Nat.{◌-◌, ◌≤◌}
use Rattle.dispatch.specs.Taken.{Turns}
use Rattle.dispatch.proofs.take_level.Given as goal

abbrev pub invariant-loop-i : goal.invariant-loop-i
invariant-loop-i l = (l.i ≤ l.n) × (l.sum ≤ l.s) × Turns l.up l.one l.step l.cap l.n l.m l.total l.s l.i l.taken l.left
