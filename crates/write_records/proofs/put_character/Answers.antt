use mathlib.Core.List.{[]}
use borrow.Author.Tests.{ne_eqb}
use Rattle.write_fields.specs.Inked.{inked_as, room_as}
use Rattle.write_records.specs.Records.{character_quote, character_plain}
use Rattle.write_records.proofs.put_character.Goals as goal

pub put_two-requires : goal.put_two-requires
put_two-requires c =
    room_as (character_quote c.args.c c.if-c-eq34.true []) c.requires

pub returns-then-c-eq34 : goal.returns-then-c-eq34
returns-then-c-eq34 c =
    inked_as (character_quote c.args.c c.if-c-eq34.true) c.put_two.ensures

pub put_byte-requires : goal.put_byte-requires
put_byte-requires c =
    room_as (character_plain c.args.c (ne_eqb _ 34 c.if-c-eq34.false) []) c.requires

pub returns : goal.returns
returns c =
    inked_as (character_plain c.args.c (ne_eqb _ 34 c.if-c-eq34.false)) c.put_byte.ensures
