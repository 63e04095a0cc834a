use mathlib.Core.List.{◌∷◌}
use native.Mathlib.Omega.{arith}
use Rattle.write_fields.specs.Inked.{inked_none, inked_more, room_next, front_two}
use Rattle.write_amounts.proofs.put_zeros.Goals as goal

pub loop-init : goal.loop-init
loop-init c = inked_none _ _ _

pub put_two-p-requires : goal.put_two-p-requires
put_two-p-requires c =
    room_next (λ i rest. c.args.lead ∷ 48 ∷ rest) (λ i. front_two c.args.lead 48) c.loop.counter c.args.n (omega arith) c.loop.invariant c.requires

pub loop-preserved : goal.loop-preserved
loop-preserved c =
    inked_more _ _ c.loop.invariant c.put_two-p.ensures
