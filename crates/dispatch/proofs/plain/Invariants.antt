use Prim.Native.Nat.{◌-◌}
use Rattle.dispatch.specs.Taken.{Going}
use Rattle.dispatch.proofs.plain.Given as goal

abbrev pub invariant-loop-moved : goal.invariant-loop-moved
invariant-loop-moved l = Going l.up l.one l.step l.cap l.n l.total l.moved l.taken l.left
