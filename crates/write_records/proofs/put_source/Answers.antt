use Rattle.rules.specs.Record.{chars}
use Rattle.write_fields.specs.Inked.{room_first}
use Rattle.write_records.specs.Records.{front_label}
use Rattle.write_records.proofs.put_source.Goals as goal

pub put_label-p-requires : goal.put_label-p-requires
put_label-p-requires c =
    room_first (front_label (chars c.args.source)) c.requires.1
