use Rattle.std.proofs.Common.{arith}
use Rattle.cutoff.specs.Tally.{stock_few, supply_few}
use Rattle.cutoff.specs.Lines.{at}
use Rattle.laws.specs.Sums.{sum_to_none, sum_to_more}
use Rattle.cutoff.proofs.supply.Goals as goal

pub loop-i-init : goal.loop-i-init
loop-i-init c = (omega arith, sum_to_none _)

pub overflow_add-sum : goal.overflow_add-sum
overflow_add-sum c =
    let head = c.loop-i in
    let one = c.args.one.now in
    omega (arith, c.count-sum.ensures, stock_few (at one head.i) (c.requires.scaled head.i c.loop-i-test.true) c.args.p, supply_few one c.requires c.args.p head.i head.invariant.0)

pub loop-i-preserved : goal.loop-i-preserved
loop-i-preserved c =
    (omega arith, sum_to_more _ _ _ _ c.loop-i.invariant.1 c.count-sum.ensures)
