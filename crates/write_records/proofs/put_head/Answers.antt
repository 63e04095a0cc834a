use Rattle.rules.specs.Record.{chars}
use Rattle.write_fields.specs.Inked.{inked_then, room_first, room_after}
use Rattle.write_records.specs.Records.{front_label}
use Rattle.write_records.proofs.put_head.Goals as goal

pub put_label-q-requires : goal.put_label-q-requires
put_label-q-requires c =
    room_first (front_label (chars c.args.delivery)) (room_after c.put_bytes-p.ensures c.requires)

pub returns : goal.returns
returns c =
    rw (← c.from.ensures) (inked_then c.put_bytes-p.ensures (inked_then c.put_label-q.ensures (inked_then c.put_byte-r.ensures c.put_number.ensures)))
