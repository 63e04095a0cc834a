-- What was read is a record that comes, so that its line is the next of those to come; the test of the loop says that the end is not passed.
use mathlib.Core.Path.{◌≡◌, ap, sym, ◌∙◌}
use native.Mathlib.Omega.{arith}
use Rattle.print_file.specs.declared.Stage.TheVariants.{Ended}
use Rattle.print_file.specs.Judging.{due, judged_not_due, starts_later, stays_within, has_most, judged_further}
use Rattle.print_file.proofs.judge_records.Goals as goal

pub returns-in_default-stage_after : goal.returns-in_default-stage_after
returns-in_default-stage_after c =
    let l = c.loop-stage in
    let on : l.stage ≡ Ended → ⊥ = (λ e. let k = rw e at c.loop-stage-test.ensures in cc) in
    sym (judged_not_due c.args.file.now l.stage l.k l.p l.left on _ c.record_at.ensures _ _ c.in-Some.is (ap due (sym c.in_default-stage_after.is) ∙ c.stage_after.ensures)) ∙ l.invariant.1

pub line_length-requires : goal.line_length-requires
line_length-requires c =
    let l = c.loop-stage in
    let on : l.stage ≡ Ended → ⊥ = (λ e. let k = rw e at c.loop-stage-test.ensures in cc) in
    has_most c.args.file.now l.stage l.k l.p l.left on _ c.record_at.ensures _ _ c.in-Some.is

pub overflow_add-k : goal.overflow_add-k
overflow_add-k c =
    let l = c.loop-stage in
    let on : l.stage ≡ Ended → ⊥ = (λ e. let k = rw e at c.loop-stage-test.ensures in cc) in
    omega (arith, l.invariant.0, starts_later c.args.file.now l.stage l.k l.p l.left on _ c.record_at.ensures _ _ c.in-Some.is, stays_within c.args.file.now l.stage l.k l.p l.left on _ c.record_at.ensures _ _ c.in-Some.is)

pub loop-stage-smaller : goal.loop-stage-smaller
loop-stage-smaller c =
    let l = c.loop-stage in
    let on : l.stage ≡ Ended → ⊥ = (λ e. let k = rw e at c.loop-stage-test.ensures in cc) in
    omega (arith, starts_later c.args.file.now l.stage l.k l.p l.left on _ c.record_at.ensures _ _ c.in-Some.is, stays_within c.args.file.now l.stage l.k l.p l.left on _ c.record_at.ensures _ _ c.in-Some.is)

pub loop-stage-preserved : goal.loop-stage-preserved
loop-stage-preserved c =
    let l = c.loop-stage in
    let on : l.stage ≡ Ended → ⊥ = (λ e. let k = rw e at c.loop-stage-test.ensures in cc) in (
      omega (arith, l.invariant.0, starts_later c.args.file.now l.stage l.k l.p l.left on _ c.record_at.ensures _ _ c.in-Some.is),
      cc (judged_further c.args.file.now l.stage l.k l.p l.left on _ c.record_at.ensures _ _ c.in-Some.is _ (ap due (sym c.in-Some-stage_after.is) ∙ c.stage_after.ensures)),
    )
