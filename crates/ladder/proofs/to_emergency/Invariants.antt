use mathlib.Core.Bool.{false}
use Prim.Native.Nat.{◌-◌, ◌≤◌}
use Rattle.ladder.specs.LastStep.{emergency_room}
use Rattle.ladder.specs.Ready.{Shifted}
use Rattle.ladder.proofs.to_emergency.Given as goal

abbrev pub invariant-loop-i : goal.invariant-loop-i
invariant-loop-i l = (l.i ≤ 32) × Shifted false l.initial.states l.i (emergency_room l.initial.states) l.states
