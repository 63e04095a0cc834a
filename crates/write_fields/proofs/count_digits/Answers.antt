use mathlib.Core.Path.{ap, ◌∙◌}
use Prim.Native.Nat.{◌*◌}
use native.Mathlib.Omega.{arith}
use Rattle.write_fields.specs.Lengths.{tens_none, tens_more, digits_few, digits_some, digits_over, digits_under}
use Rattle.write_fields.proofs.count_digits.Goals as goal

pub loop-power-init : goal.loop-power-init
loop-power-init c =
    (tens_none, digits_some c.args.v c.ranges.v.fits)

pub overflow_add-n : goal.overflow_add-n
overflow_add-n c =
    record { fits = omega (arith, digits_few c.args.v) }

pub loop-power-smaller : goal.loop-power-smaller
loop-power-smaller c =
    omega (arith, digits_over c.loop-power.n c.args.v c.ranges.v.fits (omega arith), digits_few c.args.v)

pub loop-power-preserved : goal.loop-power-preserved
loop-power-preserved c =
    (ap (λ k. k * 10) c.loop-power.invariant.0 ∙ tens_more c.loop-power.n, omega (arith, digits_over c.loop-power.n c.args.v c.ranges.v.fits (omega arith)))

pub overflow_add-result : goal.overflow_add-result
overflow_add-result c =
    record { fits = omega (arith, digits_few c.args.v) }

pub returns : goal.returns
returns c =
    (omega (arith, digits_under c.loop-power.n c.args.v c.ranges.v.fits (omega arith)), omega (arith, digits_few c.args.v))
