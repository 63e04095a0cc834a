use Rattle.write_fields.specs.Inked.{room_first, room_after}
use Rattle.write_amounts.specs.Amounts.{front_amounts}
use Rattle.print_lines.proofs.put_tail.Goals as goal

pub put_amounts-q-requires : goal.put_amounts-q-requires
put_amounts-q-requires c =
    room_first (front_amounts 32 c.args.amounts.now) (room_after c.put_byte-p.ensures c.requires)
