use Prim.Native.Nat.{◌-◌, ◌≤◌}
use Rattle.dispatch.specs.Rivals.{Rivals}
use Rattle.dispatch.proofs.find_rivals.Given as goal

abbrev pub invariant-loop-i : goal.invariant-loop-i
invariant-loop-i l = (l.i ≤ l.n) × Rivals l.bar l.one l.i l.places l.m
