use Prim.Native.Nat.{◌-◌, ◌≤◌}
use Rattle.dispatch.specs.Rivals.{Spread}
use Rattle.dispatch.proofs.spread.Given as goal

abbrev pub invariant-loop-k : goal.invariant-loop-k
invariant-loop-k l = (l.k ≤ l.m) × Spread l.few l.places l.k l.all
