use mathlib.Core.Path.{◌≡◌}
use Prim.Native.Nat.{◌*◌, ◌-◌, ◌≤◌}
use Rattle.ladder.specs.Ways.{way_of}
use Rattle.rules.specs.Group.{all}
use Rattle.ladder.proofs.rooms.Given as goal

abbrev pub invariant-loop-i : goal.invariant-loop-i
invariant-loop-i l = (l.i ≤ l.n) × (l.sum ≤ l.i * 2000) × (l.sum ≡ all (way_of l.way).room l.states l.i)
