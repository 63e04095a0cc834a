use Rattle.rules.specs.Record.{chars}
use Rattle.write_fields.specs.Inked.{room_first, room_after}
use Rattle.write_records.specs.Records.{front_doubled}
use Rattle.write_records.proofs.put_label.Goals as goal

pub put_doubled-q-requires : goal.put_doubled-q-requires
put_doubled-q-requires c =
    room_first (front_doubled (chars c.args.l)) (room_after c.put_two-p.ensures c.requires)
