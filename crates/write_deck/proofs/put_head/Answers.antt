use mathlib.Core.List.{[]}
use Rattle.write_fields.specs.Inked.{inked_as, inked_then, room_as, room_first, room_after, front_byte}
use Rattle.write_fields.specs.Texts.{front_spaced}
use Rattle.write_deck.specs.Lines.{head_text_lem}
use Rattle.write_deck.proofs.put_head.Goals as goal

pub put_byte-p-requires : goal.put_byte-p-requires
put_byte-p-requires c =
    room_first (front_byte 72) (room_as (head_text_lem c.args.losses []) c.requires)

pub put_spaced-q-requires : goal.put_spaced-q-requires
put_spaced-q-requires c =
    room_first (front_spaced c.args.losses) (room_after c.put_byte-p.ensures (room_as (head_text_lem c.args.losses []) c.requires))

pub put_byte-requires : goal.put_byte-requires
put_byte-requires c =
    room_after c.put_spaced-q.ensures (room_after c.put_byte-p.ensures (room_as (head_text_lem c.args.losses []) c.requires))

pub returns : goal.returns
returns c =
    inked_as (head_text_lem c.args.losses) (inked_then c.put_byte-p.ensures (inked_then c.put_spaced-q.ensures c.put_byte.ensures))
