use Rattle.ladder.specs.Ways.{room_down, room_up}
use Rattle.ladder.proofs.room_by.Goals as goal

pub returns-in-Down : goal.returns-in-Down
returns-in-Down c =
    room_down _ _ c.args.s _ c.requires c.in-Down.is c.room_of.ensures

pub returns-in-Up : goal.returns-in-Up
returns-in-Up c =
    room_up _ c.args.s _ c.requires c.in-Up.is c.headroom_of.ensures
