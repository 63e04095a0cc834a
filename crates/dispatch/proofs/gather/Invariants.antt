use Prim.Native.Nat.{◌-◌, ◌≤◌}
use Rattle.dispatch.specs.Rivals.{Gathered}
use Rattle.dispatch.proofs.gather.Given as goal

abbrev pub invariant-loop-k : goal.invariant-loop-k
invariant-loop-k l = (l.k ≤ l.m) × Gathered l.all l.places l.k l.few
