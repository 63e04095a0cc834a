use mathlib.Core.List.{[]}
use borrow.Author.Tests.{ne_eqb}
use Rattle.write_fields.specs.Inked.{inked_as, room_as}
use Rattle.write_fields.specs.Texts.{character_escaped, character_plain}
use Rattle.write_fields.proofs.put_character.Goals as goal

pub put_two-requires : goal.put_two-requires
put_two-requires c =
    room_as (character_escaped c.args.c (rw c.if-c-eq34.true) []) c.requires

pub returns-then-c-eq34 : goal.returns-then-c-eq34
returns-then-c-eq34 c =
    inked_as (character_escaped c.args.c (rw c.if-c-eq34.true)) c.put_two.ensures

pub put_two-requires-then-c-eq92 : goal.put_two-requires-then-c-eq92
put_two-requires-then-c-eq92 c =
    room_as (character_escaped c.args.c (rw c.if-c-eq92.true) []) c.requires

pub returns-then-c-eq92 : goal.returns-then-c-eq92
returns-then-c-eq92 c =
    inked_as (character_escaped c.args.c (rw c.if-c-eq92.true)) c.put_two-then-c-eq92.ensures

pub put_byte-requires : goal.put_byte-requires
put_byte-requires c =
    room_as (character_plain c.args.c (rw (ne_eqb _ 34 c.if-c-eq34.false, ne_eqb _ 92 c.if-c-eq92.false)) []) c.requires

pub returns : goal.returns
returns c =
    inked_as (character_plain c.args.c (rw (ne_eqb _ 34 c.if-c-eq34.false, ne_eqb _ 92 c.if-c-eq92.false))) c.put_byte.ensures
