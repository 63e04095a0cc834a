use native.Mathlib.Omega.{arith}
use Rattle.group.specs.FirstWay.{lines_next}
use Rattle.group.proofs.first.line_up.Goals as goal

pub loop-i-preserved : goal.loop-i-preserved
loop-i-preserved c =
    lines_next c.loop-i.invariant (omega (arith, c.requires.all_ready.n_small, c.loop-i-test.true)) c.step_of.ensures c.renew.ensures
