use mathlib.Core.List.{[]}
use Rattle.rules.specs.Words.{text}
use Rattle.write_fields.specs.Inked.{inked_as, inked_then, room_as, room_first, room_after, front_list}
use Rattle.write_fields.specs.Texts.{front_spaced}
use Rattle.print_lines.specs.Lines.{refusal_of}
use Rattle.print_lines.proofs.put_refusal.Goals as goal

pub put_bytes-p-requires : goal.put_bytes-p-requires
put_bytes-p-requires c =
    room_first (front_list (text "refused")) (room_as (refusal_of c.args.x c.number_of-number.result c.place_of-place.result c.number_of-number.ensures c.place_of-place.ensures []) c.requires)

pub put_spaced-q-requires : goal.put_spaced-q-requires
put_spaced-q-requires c =
    room_first (front_spaced c.number_of-number.result) (room_after c.put_bytes-p.ensures (room_as (refusal_of c.args.x c.number_of-number.result c.place_of-place.result c.number_of-number.ensures c.place_of-place.ensures []) c.requires))

pub put_spaced-r-requires : goal.put_spaced-r-requires
put_spaced-r-requires c =
    room_first (front_spaced c.place_of-place.result) (room_after c.put_spaced-q.ensures (room_after c.put_bytes-p.ensures (room_as (refusal_of c.args.x c.number_of-number.result c.place_of-place.result c.number_of-number.ensures c.place_of-place.ensures []) c.requires)))

pub put_byte-requires : goal.put_byte-requires
put_byte-requires c =
    room_after c.put_spaced-r.ensures (room_after c.put_spaced-q.ensures (room_after c.put_bytes-p.ensures (room_as (refusal_of c.args.x c.number_of-number.result c.place_of-place.result c.number_of-number.ensures c.place_of-place.ensures []) c.requires)))

pub returns : goal.returns
returns c =
    inked_as (refusal_of c.args.x c.number_of-number.result c.place_of-place.result c.number_of-number.ensures c.place_of-place.ensures) (inked_then c.put_bytes-p.ensures (inked_then c.put_spaced-q.ensures (inked_then c.put_spaced-r.ensures c.put_byte.ensures)))
