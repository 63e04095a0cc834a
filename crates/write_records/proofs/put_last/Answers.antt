use mathlib.Core.Path.{sym}
use mathlib.Core.List.{[], append-nil}
use lib.ListN.{length}
use Rattle.write_fields.specs.Inked.{inked_as, inked_then, room_as, room_first, room_after}
use Rattle.write_amounts.specs.Amounts.{front_amounts}
use Rattle.write_records.specs.Records.{ends_from, last_made}
use Rattle.write_records.proofs.put_last.Goals as goal

pub put_amounts-p-requires : goal.put_amounts-p-requires
put_amounts-p-requires c =
    room_first (front_amounts 44 c.args.amounts.now) (room_as (last_made c.args.amounts.now c.requires.0 []) c.requires.1)

pub put_bytes-requires : goal.put_bytes-requires
put_bytes-requires c =
    let zs = c.args.amounts.now in
    room_as (sym (append-nil (ends_from (length zs)))) (room_after c.put_amounts-p.ensures (room_as (last_made zs c.requires.0 []) c.requires.1))

pub returns : goal.returns
returns c =
    inked_as (last_made c.args.amounts.now c.requires.0) (inked_then c.put_amounts-p.ensures c.put_bytes.ensures)
