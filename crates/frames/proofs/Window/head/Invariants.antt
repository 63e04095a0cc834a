-- Each read that brings something leaves less of the window.
use Rattle.std.proofs.Common.{◌-◌, length}
use Rattle.frames.specs.Room.{SameRoom}
use Rattle.frames.proofs.Window.head.Given as goal

abbrev pub invariant-loop-head : goal.invariant-loop-head
invariant-loop-head g l = SameRoom l.fn.self l.self

abbrev pub decreases-loop-head : goal.decreases-loop-head
decreases-loop-head g l = length l.self.bytes.now - (l.self.have - l.self.from)
