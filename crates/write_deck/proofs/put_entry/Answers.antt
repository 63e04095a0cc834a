use Rattle.rules.specs.Record.{chars}
use Rattle.write_fields.specs.Inked.{room_first, room_after}
use Rattle.write_deck.specs.Lines.{front_name, front_numbers}
use Rattle.write_deck.proofs.put_entry.Goals as goal

pub put_numbers-q-requires : goal.put_numbers-q-requires
put_numbers-q-requires c =
    room_first (front_numbers c.args.vs.now) (room_after c.put_byte-p.ensures c.requires)

pub put_name-r-requires : goal.put_name-r-requires
put_name-r-requires c =
    room_first (front_name (chars c.args.l)) (room_after c.put_numbers-q.ensures (room_after c.put_byte-p.ensures c.requires))
