use mathlib.Core.List.{[]}
use Rattle.write_fields.specs.Inked.{inked_as, room_as}
use Rattle.write_deck.specs.Lines.{end_text}
use Rattle.write_deck.proofs.put_end.Goals as goal

pub put_two-requires : goal.put_two-requires
put_two-requires c =
    room_as (end_text []) c.requires

pub returns : goal.returns
returns c =
    inked_as end_text c.put_two.ensures
