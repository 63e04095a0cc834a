use mathlib.Core.List.{[]}
use native.Mathlib.Omega.{arith}
use Rattle.write_fields.specs.Inked.{inked_as, inked_then, room_as, room_first, room_after, front_byte, front_two}
use Rattle.write_fields.specs.Texts.{number_one, number_two, number_three, number_four}
use Rattle.write_fields.proofs.put_few.Goals as goal

pub put_byte-requires : goal.put_byte-requires
put_byte-requires c =
    room_as (number_one c.args.v c.if-v-lt10.true []) c.requires.1

pub returns-then-v-lt10 : goal.returns-then-v-lt10
returns-then-v-lt10 c =
    inked_as (number_one c.args.v c.if-v-lt10.true) c.put_byte.ensures

pub put_digits-requires : goal.put_digits-requires
put_digits-requires c =
    (c.if-v-lt100.true, room_as (number_two c.args.v c.if-v-lt10.false c.if-v-lt100.true []) c.requires.1)

pub returns-then-v-lt100 : goal.returns-then-v-lt100
returns-then-v-lt100 c =
    inked_as (number_two c.args.v c.if-v-lt10.false c.if-v-lt100.true) c.put_digits.ensures

pub put_byte-p-requires : goal.put_byte-p-requires
put_byte-p-requires c =
    room_first (front_byte _) (room_as (number_three c.args.v c.if-v-lt100.false c.if-v-lt1000.true []) c.requires.1)

pub put_digits-requires-then-v-lt1000 : goal.put_digits-requires-then-v-lt1000
put_digits-requires-then-v-lt1000 c =
    (omega arith, room_after c.put_byte-p.ensures (room_as (number_three c.args.v c.if-v-lt100.false c.if-v-lt1000.true []) c.requires.1))

pub returns-then-v-lt1000 : goal.returns-then-v-lt1000
returns-then-v-lt1000 c =
    inked_as (number_three c.args.v c.if-v-lt100.false c.if-v-lt1000.true) (inked_then c.put_byte-p.ensures c.put_digits-then-v-lt1000.ensures)

pub put_digits-p-requires : goal.put_digits-p-requires
put_digits-p-requires c =
    (omega arith, room_first (front_two _ _) (room_as (number_four c.args.v c.if-v-lt1000.false c.requires.0 []) c.requires.1))

pub put_digits-requires-2 : goal.put_digits-requires-2
put_digits-requires-2 c =
    (omega arith, room_after c.put_digits-p.ensures (room_as (number_four c.args.v c.if-v-lt1000.false c.requires.0 []) c.requires.1))

pub returns : goal.returns
returns c =
    inked_as (number_four c.args.v c.if-v-lt1000.false c.requires.0) (inked_then c.put_digits-p.ensures c.put_digits-2.ensures)
