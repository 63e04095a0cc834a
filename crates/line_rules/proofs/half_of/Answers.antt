use native.Mathlib.Omega.{arith}
use borrow.Author.Rules.{rules}
use Rattle.line_rules.specs.ToBase256.{base256_zero, base256_more, base256_fits, base256_below}
use Rattle.line_rules.proofs.half_of.Goals as goal

pub loop-i-init : goal.loop-i-init
loop-i-init c = (search rules, search rules, base256_zero _)

pub overflow_mul-half : goal.overflow_mul-half
overflow_mul-half c = omega (arith, base256_fits _ _ c.loop-i.invariant.1 (omega arith))

pub overflow_add-half : goal.overflow_add-half
overflow_add-half c = omega (arith, base256_fits _ _ c.loop-i.invariant.1 (omega arith))

pub loop-i-preserved : goal.loop-i-preserved
loop-i-preserved c = (search rules, base256_below _ _ _ c.loop-i.invariant.1 c.byte.ensures.1, base256_more _ _ _ _ c.loop-i.invariant.2 c.byte.ensures.0)
