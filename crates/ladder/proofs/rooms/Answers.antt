use native.Mathlib.Omega.{arith}
use Rattle.laws.specs.Sums.{sum_to_none, sum_to_more}
use Rattle.ladder.proofs.rooms.Goals as goal

pub loop-i-init : goal.loop-i-init
loop-i-init c = (omega arith, omega arith, sum_to_none _)

pub loop-i-preserved : goal.loop-i-preserved
loop-i-preserved c =
    (omega arith, omega (arith, c.room_by-sum.ensures.1, c.loop-i.invariant.1), sum_to_more _ _ _ _ c.loop-i.invariant.2 c.room_by-sum.ensures.0)
