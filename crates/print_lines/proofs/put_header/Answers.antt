use mathlib.Core.List.{[]}
use Rattle.rules.specs.Words.{text}
use Rattle.write_fields.specs.Inked.{inked_as, inked_then, room_as, room_first, room_after, front_list}
use Rattle.write_amounts.specs.Amounts.{front_amounts}
use Rattle.print_lines.specs.Lines.{hour_line}
use Rattle.print_lines.proofs.put_header.Goals as goal

pub put_bytes-p-requires : goal.put_bytes-p-requires
put_bytes-p-requires c =
    room_first (front_list (text "hour")) (room_as (hour_line c.args.amounts.now []) c.requires)

pub put_amounts-q-requires : goal.put_amounts-q-requires
put_amounts-q-requires c =
    room_first (front_amounts 32 c.args.amounts.now) (room_after c.put_bytes-p.ensures (room_as (hour_line c.args.amounts.now []) c.requires))

pub put_byte-requires : goal.put_byte-requires
put_byte-requires c =
    room_after c.put_amounts-q.ensures (room_after c.put_bytes-p.ensures (room_as (hour_line c.args.amounts.now []) c.requires))

pub returns : goal.returns
returns c =
    inked_as (hour_line c.args.amounts.now) (inked_then c.put_bytes-p.ensures (inked_then c.put_amounts-q.ensures c.put_byte.ensures))
