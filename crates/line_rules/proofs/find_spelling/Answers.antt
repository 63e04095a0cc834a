use mathlib.Core.Path.{sym, ap, ◌∙◌}
use native.Mathlib.Omega.{arith}
use borrow.Author.Rules.{rules}
use Rattle.line_rules.specs.Finds.{find_to_zero, find_to_more, find_to_here}
use Rattle.line_rules.specs.Spellings.{spot_of}
use Rattle.line_rules.proofs.find_spelling.Goals as goal

pub loop-i-init : goal.loop-i-init
loop-i-init c = (search rules, find_to_zero _)

pub returns-then-same_spelling-clause-found : goal.returns-then-same_spelling-clause-found
returns-then-same_spelling-clause-found c =
    ap spot_of (sym (find_to_here _ _ c.loop-i.i (omega arith) c.loop-i.invariant.1 (sym c.same_spelling.ensures ∙ c.if-same_spelling.true)))

pub loop-i-preserved : goal.loop-i-preserved
loop-i-preserved c =
    (search rules, find_to_more _ _ c.loop-i.invariant.1 (sym c.same_spelling.ensures ∙ c.if-same_spelling.false))
