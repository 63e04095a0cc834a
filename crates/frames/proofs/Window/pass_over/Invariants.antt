-- What is left shrinks with every turn but the first, which may find nothing in the window.
use Rattle.std.proofs.Common.{◌≡◌, ◌≤◌, ◌+◌, ◌-◌}
use Rattle.frames.specs.Room.{SameRoom}
use Rattle.frames.proofs.Window.pass_over.Given as goal

abbrev pub invariant-loop-self : goal.invariant-loop-self
invariant-loop-self g l = (l.head.start ≤ l.self.have) × (l.self.from ≡ 0) × SameRoom l.fn.self l.self

abbrev pub decreases-loop-self : goal.decreases-loop-self
decreases-loop-self g l = l.left + l.left + (1 - (l.self.have - l.head.start))
