use Prim.Native.Nat.{◌-◌}
use Rattle.dispatch.specs.Taken.{Going}
use Rattle.dispatch.proofs.take_best.Given as goal

abbrev pub invariant-loop-sum : goal.invariant-loop-sum
invariant-loop-sum l = Going l.up l.one l.step l.cap l.n l.total l.sum l.taken l.left

abbrev pub decreases-loop-sum : goal.decreases-loop-sum
decreases-loop-sum l = l.total - l.sum
