use borrow.Author.Rules.{rules}
use Rattle.laws.specs.Sums.{sum_to_none, sum_to_more}
use Rattle.line_rules.proofs.delivered_to.Goals as goal

pub loop-i-init : goal.loop-i-init
loop-i-init c = (search rules, search rules, sum_to_none _)

pub loop-i-preserved : goal.loop-i-preserved
loop-i-preserved c =
    (search rules, search rules, sum_to_more _ _ _ _ c.loop-i.invariant.2 c.wide-sum.ensures.0)
