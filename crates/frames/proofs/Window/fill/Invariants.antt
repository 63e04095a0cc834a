-- Each read that brings something leaves less of the window. What has come so far stands after what was there.
use Rattle.std.proofs.Common.{◌≡◌, ◌≤◌, ◌-◌, length, take, slice_range}
use Rattle.std.specs.Io.KnownBytes.{Consumes}
use Rattle.frames.specs.Room.{SameRoom}
use Rattle.frames.proofs.Window.fill.Given as goal

abbrev pub invariant-loop-self : goal.invariant-loop-self
invariant-loop-self g l = record {
  stays : (l.self.from ≡ l.fn.self.from) × (l.fn.self.have ≤ l.self.have);
  front : take l.fn.self.have l.self.bytes.now ≡ take l.fn.self.have l.fn.self.bytes.now;
  kept : SameRoom l.fn.self l.self;
  read : Consumes (g.I.Read.remaining l.fn.input) (g.I.Read.remaining l.input) (slice_range l.self.bytes.now l.fn.self.have l.self.have);
}

abbrev pub decreases-loop-self : goal.decreases-loop-self
decreases-loop-self g l = length l.self.bytes.now - l.self.have
