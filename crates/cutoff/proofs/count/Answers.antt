use Rattle.std.proofs.Common.{arith}
use Rattle.cutoff.specs.Tally.{stock_more, stock_same}
use Rattle.cutoff.proofs.count.Goals as goal

pub returns-then-q-step : goal.returns-then-q-step
returns-then-q-step c =
    stock_more _ _ _ _ _ c.least-w.result (omega (arith, c.least-w.ensures, c.less.ensures)) c.if-q-step.true

pub returns-else-q-step : goal.returns-else-q-step
returns-else-q-step c =
    stock_same _ _ _ _ _ c.least-w.result (omega (arith, c.least-w.ensures, c.less.ensures)) c.if-q-step.false
