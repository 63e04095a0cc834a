use native.Mathlib.Omega.{arith}
use Rattle.merit.specs.RemainderMoves.{room_open}
use Rattle.rules.specs.Group.{last}
use Rattle.ladder.specs.LastStep.{unit_room_lem, purchase_room, fixed_room}
use Rattle.ladder.proofs.unit_room.Goals as goal

pub returns-in-Unit : goal.returns-in-Unit
returns-in-Unit c =
    (unit_room_lem c.args.s c.in-Unit.field-0 _ c.in-Unit.is c.room_of.ensures, omega (arith, c.room_of.ensures, room_open last c.args.s, c.requires.small.v))

pub returns-in-Purchase : goal.returns-in-Purchase
returns-in-Purchase c =
    (purchase_room c.args.s c.in-Purchase.g c.in-Purchase.rate c.in-Purchase.is, omega arith)

pub returns-in-Fixed : goal.returns-in-Fixed
returns-in-Fixed c =
    (fixed_room c.args.s c.in-Fixed.g c.in-Fixed.is, omega arith)
