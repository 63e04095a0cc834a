use mathlib.Core.List.{[]}
use Rattle.rules.specs.Words.{text}
use Rattle.rules.specs.Record.{chars}
use Rattle.write_fields.specs.Inked.{inked_as, inked_then, room_as, room_first, room_after, front_list}
use Rattle.write_records.specs.Records.{internal_made}
use Rattle.write_records.proofs.put_internal.Goals as goal

pub put_bytes-p-requires : goal.put_bytes-p-requires
put_bytes-p-requires c =
    room_first (front_list (text "internal,,")) (room_as (internal_made (chars c.args.source) c.args.amounts.now []) c.requires.1)

pub put_source-requires : goal.put_source-requires
put_source-requires c =
    (c.requires.0, room_after c.put_bytes-p.ensures (room_as (internal_made (chars c.args.source) c.args.amounts.now []) c.requires.1))

pub returns : goal.returns
returns c =
    inked_as (internal_made (chars c.args.source) c.args.amounts.now) (inked_then c.put_bytes-p.ensures c.put_source.ensures)
