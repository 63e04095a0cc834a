use mathlib.Core.List.{[]}
use Rattle.write_fields.specs.Inked.{inked_as, room_as}
use Rattle.write_deck.specs.Lines.{delivery_text_lem}
use Rattle.write_deck.proofs.put_delivery.Goals as goal

pub put_entry-requires : goal.put_entry-requires
put_entry-requires c =
    room_as (delivery_text_lem c.args.x []) c.requires

pub returns : goal.returns
returns c =
    inked_as (delivery_text_lem c.args.x) c.put_entry.ensures
