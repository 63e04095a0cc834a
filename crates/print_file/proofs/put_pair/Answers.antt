use mathlib.Core.List.{[], ◌∷◌}
use Rattle.rules.specs.Record.{chars}
use Rattle.write_fields.specs.Inked.{inked_as, inked_then, room_as, room_first, room_after, front_byte}
use Rattle.write_fields.specs.Texts.{front_quoted}
use Rattle.write_amounts.specs.Amounts.{front_amounts}
use Rattle.print_file.specs.RecordLines.{pair_made, number_held}
use Rattle.print_file.proofs.put_pair.Goals as goal

pub put_label-p-requires : goal.put_label-p-requires
put_label-p-requires c =
    room_first (front_quoted (chars c.args.delivery)) (room_as (pair_made (chars c.args.delivery) c.args.number (chars c.args.source) c.args.amounts.now []) c.requires)

pub put_amounts-q-requires : goal.put_amounts-q-requires
put_amounts-q-requires c =
    room_as (number_held c.args.number c.ranges.number []) (room_first (front_amounts 32 (c.args.number ∷ [])) (room_after c.put_label-p.ensures (room_as (pair_made (chars c.args.delivery) c.args.number (chars c.args.source) c.args.amounts.now []) c.requires)))

pub put_byte-r-requires : goal.put_byte-r-requires
put_byte-r-requires c =
    room_first (front_byte 32) (room_after (inked_as (number_held c.args.number c.ranges.number) c.put_amounts-q.ensures) (room_after c.put_label-p.ensures (room_as (pair_made (chars c.args.delivery) c.args.number (chars c.args.source) c.args.amounts.now []) c.requires)))

pub put_source-requires : goal.put_source-requires
put_source-requires c =
    room_after c.put_byte-r.ensures (room_after (inked_as (number_held c.args.number c.ranges.number) c.put_amounts-q.ensures) (room_after c.put_label-p.ensures (room_as (pair_made (chars c.args.delivery) c.args.number (chars c.args.source) c.args.amounts.now []) c.requires)))

pub returns : goal.returns
returns c =
    inked_as (pair_made (chars c.args.delivery) c.args.number (chars c.args.source) c.args.amounts.now)
    (inked_then c.put_label-p.ensures (inked_then (inked_as (number_held c.args.number c.ranges.number) c.put_amounts-q.ensures) (inked_then c.put_byte-r.ensures c.put_source.ensures)))
