use Prim.Native.Nat.{◌+◌, ◌^◌, ◌-◌, ◌≤◌}
use Rattle.dispatch.proofs.Lead.{Lead}
use Rattle.dispatch.proofs.choose.Given as goal

abbrev pub invariant-loop-i : goal.invariant-loop-i
invariant-loop-i l = (l.bar ≤ 2 ^ 48 + 2) × Lead l.up l.more l.left l.n l.best l.bar l.i
