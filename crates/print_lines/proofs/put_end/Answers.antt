use mathlib.Core.List.{[]}
use Rattle.write_fields.specs.Inked.{inked_as, room_as}
use Rattle.print_lines.specs.Lines.{end_line_lem}
use Rattle.print_lines.proofs.put_end.Goals as goal

pub put_bytes-requires : goal.put_bytes-requires
put_bytes-requires c =
    room_as (end_line_lem []) c.requires

pub returns : goal.returns
returns c =
    inked_as (end_line_lem) c.put_bytes.ensures
