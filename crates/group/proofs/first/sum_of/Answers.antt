use mathlib.Core.Path.{refl}
use native.Mathlib.Omega.{arith}
use Rattle.laws.specs.Sums.{sum_to_none, sum_to_more}
use Rattle.group.proofs.first.sum_of.Goals as goal

pub loop-i-init : goal.loop-i-init
loop-i-init c = (omega arith, sum_to_none _)

pub loop-i-preserved : goal.loop-i-preserved
loop-i-preserved c = (
  omega (arith, c.requires.each c.loop-i.i c.loop-i-test.true, c.loop-i.invariant.0),
  sum_to_more _ _ _ _ c.loop-i.invariant.1 refl,
)
