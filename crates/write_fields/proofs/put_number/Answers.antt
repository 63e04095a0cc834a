use mathlib.Core.List.{[]}
use Rattle.write_fields.specs.Inked.{inked_as, room_as}
use Rattle.write_fields.specs.Texts.{number_one}
use Rattle.write_fields.proofs.put_number.Goals as goal

pub put_byte-requires : goal.put_byte-requires
put_byte-requires c =
    room_as (number_one c.args.v c.if-v-lt10.true []) c.requires

pub returns-then-v-lt10 : goal.returns-then-v-lt10
returns-then-v-lt10 c =
    inked_as (number_one c.args.v c.if-v-lt10.true) c.put_byte.ensures
