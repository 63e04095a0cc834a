use Prim.Native.Nat.{◌-◌, ◌≤◌}
use Rattle.ladder.specs.LastStep.{Lead}
use Rattle.ladder.specs.Ready.{Ready}
use Rattle.ladder.proofs.dearest.Given as goal

abbrev pub invariant-loop-i : goal.invariant-loop-i
invariant-loop-i l = (l.i ≤ l.n) × Lead l.states l.n l.i l.best l.other × Ready l.other
