-- The digits before the last four are those of a ten-thousandth.
use Rattle.std.proofs.Common.{◌/◌, [], arith}
use Rattle.rules.specs.Fields.{digits}
use Rattle.write_fields.specs.Inked.{inked_as, inked_then, room_first, room_after, room_as, front_list, front_two}
use Rattle.write_fields.specs.Texts.{number_more_four}
use Rattle.write_fields.proofs.+put_many.Goals as goal

pub put_many-p-requires : goal.put_many-p-requires
put_many-p-requires t c =
    let v = c.args.v in
    (omega arith, room_first (front_list (digits (v / 10000))) (room_as (number_more_four v c.if-v-lt10000.false c.ranges.v.fits []) c.requires))

pub put_digits-q-requires : goal.put_digits-q-requires
put_digits-q-requires t c =
    (omega arith, room_first (front_two _ _) (room_after c.put_many-p.ensures (room_as (number_more_four c.args.v c.if-v-lt10000.false c.ranges.v.fits []) c.requires)))

pub put_digits-requires : goal.put_digits-requires
put_digits-requires t c =
    (omega arith, room_after c.put_digits-q.ensures (room_after c.put_many-p.ensures (room_as (number_more_four c.args.v c.if-v-lt10000.false c.ranges.v.fits []) c.requires)))

pub returns : goal.returns
returns t c =
    inked_as (number_more_four c.args.v c.if-v-lt10000.false c.ranges.v.fits) (inked_then c.put_many-p.ensures (inked_then c.put_digits-q.ensures c.put_digits.ensures))
