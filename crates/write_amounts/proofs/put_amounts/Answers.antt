use borrow.Author.Rules.{rules}
use mathlib.Core.List.{[]}
use native.Mathlib.Omega.{arith}
use lib.IntN.{pos}
use lib.ListN.{length, get_or}
use Rattle.write_fields.specs.Inked.{inked_as, inked_none, inked_more, room_as, room_next}
use Rattle.write_amounts.specs.Amounts.{amount_at, front_signed, amounts_zero}
use Rattle.write_amounts.specs.Held.{signed_held}
use Rattle.write_amounts.proofs.put_amounts.Goals as goal

pub put_zeros-requires : goal.put_zeros-requires
put_zeros-requires c =
    room_as (amounts_zero c.args.lead c.args.amounts.now (c.are_zero.ensures c.if-are_zero.true) []) c.requires

pub returns-then-are_zero : goal.returns-then-are_zero
returns-then-are_zero c =
    inked_as (amounts_zero c.args.lead c.args.amounts.now (c.are_zero.ensures c.if-are_zero.true)) c.put_zeros.ensures

pub loop-v-init : goal.loop-v-init
loop-v-init c = inked_none _ _ _

pub put_signed-p-requires : goal.put_signed-p-requires
put_signed-p-requires c =
    let zs = c.args.amounts.now in
    room_as (signed_held c.args.lead (get_or zs c.loop-v.v-index (pos 0)) (search rules) [])
    (room_next (amount_at c.args.lead zs) (λ i. front_signed c.args.lead (get_or zs i (pos 0))) c.loop-v.v-index (length zs) (omega arith) c.loop-v.invariant c.requires)

pub loop-v-preserved : goal.loop-v-preserved
loop-v-preserved c =
    let zs = c.args.amounts.now in
    let written = inked_as (signed_held c.args.lead (get_or zs c.loop-v.v-index (pos 0)) (search rules)) c.put_signed-p.ensures in
    inked_more (amount_at c.args.lead zs) c.loop-v.v-index c.loop-v.invariant written
