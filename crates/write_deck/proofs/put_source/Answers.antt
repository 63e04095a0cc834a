use mathlib.Core.List.{[]}
use Rattle.rules.specs.Record.{chars}
use Rattle.write_fields.specs.Inked.{inked_as, room_as}
use Rattle.write_deck.specs.Lines.{unit_text, purchase_text, fixed_text}
use Rattle.write_deck.proofs.put_source.Goals as goal

pub put_entry-requires : goal.put_entry-requires
put_entry-requires c =
    rw c.unit_fields-vs.ensures (room_as (unit_text c.in-Unit.u (chars c.args.x.label) c.in-Unit.is []) c.requires)

pub put_entry-requires-in-Purchase : goal.put_entry-requires-in-Purchase
put_entry-requires-in-Purchase c =
    room_as (purchase_text c.in-Purchase.g c.in-Purchase.rate (chars c.args.x.label) c.in-Purchase.is []) c.requires

pub put_entry-requires-in-Fixed : goal.put_entry-requires-in-Fixed
put_entry-requires-in-Fixed c =
    room_as (fixed_text c.in-Fixed.g (chars c.args.x.label) c.in-Fixed.is []) c.requires

pub returns-in-Unit : goal.returns-in-Unit
returns-in-Unit c =
    inked_as (unit_text c.in-Unit.u (chars c.args.x.label) c.in-Unit.is) (rw c.unit_fields-vs.ensures at c.put_entry.ensures)

pub returns-in-Purchase : goal.returns-in-Purchase
returns-in-Purchase c =
    inked_as (purchase_text c.in-Purchase.g c.in-Purchase.rate (chars c.args.x.label) c.in-Purchase.is) c.put_entry-in-Purchase.ensures

pub returns-in-Fixed : goal.returns-in-Fixed
returns-in-Fixed c =
    inked_as (fixed_text c.in-Fixed.g (chars c.args.x.label) c.in-Fixed.is) c.put_entry-in-Fixed.ensures
