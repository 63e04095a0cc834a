use Prim.Native.Nat.{◌-◌, ◌≤◌}
use Rattle.group.specs.FirstWay.{FirstLines}
use Rattle.group.proofs.first.line_up.Given as goal

abbrev pub invariant-loop-i : goal.invariant-loop-i
invariant-loop-i l = FirstLines l.states l.step l.down l.room l.above l.head l.i
