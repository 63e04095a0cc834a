use mathlib.Core.Path.{sym, ◌∙◌}
use native.Mathlib.Omega.{arith}
use Rattle.ladder.specs.LastStep.{lead_start, lead_take, lead_keep}
use Rattle.ladder.proofs.dearest.Goals as goal
use Rattle.ladder.proofs.dearest.Goals.{then-goes_before, else-goes_before}

pub loop-i-init : goal.loop-i-init
loop-i-init c =
    (omega arith, lead_start _ _ _, c.requires.ready _)

pub loop-i-preserved : goal.loop-i-preserved
loop-i-preserved c =
    let a = c.loop-i in
    let g = c.goes_before.ensures in
    elim c.if-goes_before.branch [
      | then-goes_before w ↦ (omega arith, rw (w.best-is, w.other-is) (lead_take _ _ _ _ _ (omega arith) a.invariant.1 (sym g ∙ w.if-goes_before.true)), rw w.other-is (c.requires.ready _))
      | else-goes_before w ↦ (omega arith, rw (w.best-is, w.other-is) (lead_keep _ _ _ _ _ (omega arith) a.invariant.1 (sym g ∙ w.if-goes_before.false)), rw w.other-is a.invariant.2)
    ]
