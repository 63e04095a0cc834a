use mathlib.Core.Path.{ap, sym}
use mathlib.Core.List.{[]}
use native.Mathlib.Omega.{arith}
use borrow.Author.Rules.{rules}
use lib.IntN.{pos}
use lib.ListN.{length, get_or}
use Rattle.write_fields.specs.Inked.{length_none, length_more, length_within}
use Rattle.write_amounts.specs.Amounts.{amount_at, front_signed}
use Rattle.write_amounts.specs.Held.{signed_held}
use Rattle.write_amounts.proofs.amounts_length.Goals as goal

pub loop-v-init : goal.loop-v-init
loop-v-init c = sym (length_none _)

pub overflow_add-size : goal.overflow_add-size
overflow_add-size c =
    let zs = c.args.amounts.now in
    let held = ap length (signed_held 0 (get_or zs c.loop-v.v-index (pos 0)) (search rules) []) in
    let within = length_within (amount_at 0 zs) (λ i. front_signed 0 (get_or zs i (pos 0))) c.loop-v.v-index (length zs) (omega arith) in
    record { fits = omega (arith, held, within, c.requires, c.signed_length-size.ensures.0, c.loop-v.invariant) }

pub loop-v-preserved : goal.loop-v-preserved
loop-v-preserved c =
    let zs = c.args.amounts.now in
    let held = ap length (signed_held 0 (get_or zs c.loop-v.v-index (pos 0)) (search rules) []) in
    omega (arith, held, length_more (amount_at 0 zs) (λ i. front_signed 0 (get_or zs i (pos 0))) c.loop-v.v-index, c.signed_length-size.ensures.0, c.loop-v.invariant)
