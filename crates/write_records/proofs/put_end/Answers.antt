use mathlib.Core.List.{[]}
use Rattle.write_fields.specs.Inked.{inked_as, room_as}
use Rattle.write_records.specs.Records.{end_made}
use Rattle.write_records.proofs.put_end.Goals as goal

pub put_bytes-requires : goal.put_bytes-requires
put_bytes-requires c =
    room_as (end_made []) c.requires

pub returns : goal.returns
returns c =
    inked_as end_made c.put_bytes.ensures
