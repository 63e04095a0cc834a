use mathlib.Core.List.{[], ◌∷◌}
use Rattle.rules.specs.Fields.{basis_text}
use Rattle.rules.specs.Record.{chars}
use Rattle.write_fields.specs.Inked.{inked_as, inked_then, room_as, room_first, room_after, front_list}
use Rattle.write_fields.specs.Texts.{front_spaced}
use Rattle.write_deck.specs.Lines.{front_name, direct_text_lem}
use Rattle.write_deck.proofs.put_direct.Goals as goal

pub put_two-p-requires : goal.put_two-p-requires
put_two-p-requires c =
    room_first (front_list (68 ∷ 32 ∷ [])) (room_as (direct_text_lem _ _ _ _ []) c.requires)

pub put_basis-q-requires : goal.put_basis-q-requires
put_basis-q-requires c =
    room_first (front_list (basis_text c.args.x)) (room_after c.put_two-p.ensures (room_as (direct_text_lem _ _ _ _ []) c.requires))

pub put_spaced-r-requires : goal.put_spaced-r-requires
put_spaced-r-requires c =
    room_first (front_spaced c.args.percent) (room_after c.put_basis-q.ensures (room_after c.put_two-p.ensures (room_as (direct_text_lem _ _ _ _ []) c.requires)))

pub put_name-s-requires : goal.put_name-s-requires
put_name-s-requires c =
    room_first (front_name (chars c.args.unit)) (room_after c.put_spaced-r.ensures (room_after c.put_basis-q.ensures (room_after c.put_two-p.ensures (room_as (direct_text_lem _ _ _ _ []) c.requires))))

pub put_name-t-requires : goal.put_name-t-requires
put_name-t-requires c =
    room_first (front_name (chars c.args.delivery)) (room_after c.put_name-s.ensures (room_after c.put_spaced-r.ensures (room_after c.put_basis-q.ensures (room_after c.put_two-p.ensures (room_as (direct_text_lem _ _ _ _ []) c.requires)))))

pub put_byte-requires : goal.put_byte-requires
put_byte-requires c =
    room_after c.put_name-t.ensures (room_after c.put_name-s.ensures (room_after c.put_spaced-r.ensures (room_after c.put_basis-q.ensures (room_after c.put_two-p.ensures (room_as (direct_text_lem _ _ _ _ []) c.requires)))))

pub returns : goal.returns
returns c =
    inked_as (direct_text_lem c.args.x c.args.percent _ _) (inked_then c.put_two-p.ensures (inked_then c.put_basis-q.ensures (inked_then c.put_spaced-r.ensures (inked_then c.put_name-s.ensures (inked_then c.put_name-t.ensures c.put_byte.ensures)))))
