use native.Mathlib.Omega.{arith}
use Rattle.dispatch.proofs.Places.{spread_none, spread_more}
use Rattle.dispatch.proofs.spread.Goals as goal

pub loop-k-init : goal.loop-k-init
loop-k-init c = (omega arith, rw c.requires.blank (spread_none _ _))

pub loop-k-preserved : goal.loop-k-preserved
loop-k-preserved c =
    (omega arith, spread_more _ _ _ _ _ c.requires.places (omega arith) c.loop-k.invariant.1)
