use native.Mathlib.Omega.{arith}
use Rattle.ladder.specs.Ways.{way_within}
use Rattle.ladder.proofs.set_line.Goals as goal

pub top_of-top-requires-clause-room : goal.top_of-top-requires-clause-room
top_of-top-requires-clause-room c = rw c.up_of.ensures (way_within c.args.way c.args.s c.room_by-room.result c.requires.ready (omega (arith, c.room_by-room.ensures.0)))
