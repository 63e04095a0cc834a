use mathlib.Core.List.{[]}
use Rattle.rules.specs.Words.{text}
use Rattle.write_fields.specs.Inked.{inked_as, inked_then, room_as, room_first, room_after, front_list}
use Rattle.write_records.specs.Records.{hour_made}
use Rattle.write_records.proofs.put_hour.Goals as goal

pub put_bytes-p-requires : goal.put_bytes-p-requires
put_bytes-p-requires c =
    room_first (front_list (text "hour,,,")) (room_as (hour_made c.args.amounts.now []) c.requires.1)

pub put_last-requires : goal.put_last-requires
put_last-requires c =
    (c.requires.0, room_after c.put_bytes-p.ensures (room_as (hour_made c.args.amounts.now []) c.requires.1))

pub returns : goal.returns
returns c =
    inked_as (hour_made c.args.amounts.now) (inked_then c.put_bytes-p.ensures c.put_last.ensures)
