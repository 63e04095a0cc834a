use native.Mathlib.Omega.{arith}
use lib.ListN.{length, get_or}
use Rattle.write_fields.specs.Inked.{inked_none, inked_more, room_next}
use Rattle.write_fields.specs.Texts.{spaced_at, front_spaced}
use Rattle.write_fields.proofs.put_numbers.Goals as goal

pub loop-v-init : goal.loop-v-init
loop-v-init c = inked_none _ _ _

pub put_spaced-p-requires : goal.put_spaced-p-requires
put_spaced-p-requires c =
    let vs = c.args.vs.now in
    room_next (spaced_at vs) (λ i. front_spaced (get_or vs i 0)) c.loop-v.v-index (length vs) (omega arith) c.loop-v.invariant c.requires

pub loop-v-preserved : goal.loop-v-preserved
loop-v-preserved c =
    inked_more _ _ c.loop-v.invariant c.put_spaced-p.ensures
