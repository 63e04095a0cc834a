use mathlib.Core.Path.{sym, ◌∙◌}
use native.Mathlib.Omega.{arith}
use Rattle.laws.specs.Sums.{sum_to_none, sum_to_end}
use Rattle.members.specs.Members.{scheduled_small, scheduled_take, scheduled_skip}
use Rattle.members.proofs.total_of.Goals as goal
use Rattle.members.proofs.total_of.Goals.{then-eq, else-eq}

pub loop-j-init : goal.loop-j-init
loop-j-init c = (omega arith, sum_to_none _)

pub overflow_add-sum : goal.overflow_add-sum
overflow_add-sum c =
    let l = c.loop-j in
    omega (arith, l.invariant.1, scheduled_small c.args.mwhs.now c.args.keys.now c.args.key c.args.n c.requires l.j l.invariant.0, c.requires.few, c.requires.mwh l.j (omega arith))

pub loop-j-preserved : goal.loop-j-preserved
loop-j-preserved c =
    let s = c.args in
    let l = c.loop-j in
    let same = sym c.eq.ensures in
    elim c.if-eq.branch [
      | then-eq w ↦ (omega arith, w.sum-is ∙ scheduled_take s.mwhs.now s.keys.now s.key l.j l.sum (same ∙ w.if-eq.true) l.invariant.1)
      | else-eq w ↦ (omega arith, w.sum-is ∙ scheduled_skip s.mwhs.now s.keys.now s.key l.j l.sum (same ∙ w.if-eq.false) l.invariant.1)
    ]

pub returns : goal.returns
returns c =
    let e = sum_to_end _ _ _ _ c.loop-j.invariant.0 c.loop-j-test.false c.loop-j.invariant.1 in
    (e, omega (arith, e, scheduled_small c.args.mwhs.now c.args.keys.now c.args.key c.args.n c.requires c.args.n (omega arith), c.requires.few))
