use mathlib.Core.Path.{sym, ◌∙◌}
use native.Mathlib.Omega.{arith}
use Rattle.members.specs.Members.{counted_small, going_none, going_skip, going_fits, going_take, going_all}
use Rattle.rules.specs.Hour.{key_at}
use Rattle.members.proofs.share_rows.Goals as goal
use Rattle.members.proofs.share_rows.Goals.{then-eq, else-eq}

pub loop-j-init : goal.loop-j-init
loop-j-init c = λ a g l. going_none _ _ _ _ _ _ _ _ g

pub overflow_add-count : goal.overflow_add-count
overflow_add-count c =
    let p = c.requires.1 in
    omega (arith, (c.loop-j.invariant p.a p.given p.listed).counts, counted_small c.args.keys.now (key_at c.args.keys.now c.args.lead) c.loop-j.j, p.given.mwhs.few)

pub overflow_add-mwh : goal.overflow_add-mwh
overflow_add-mwh c =
    let p = c.requires.1 in
    omega (arith, (going_fits _ _ _ _ _ _ _ _ p.given _ _ _ _ _ c.loop-j-test.true (c.loop-j.invariant p.a p.given p.listed) (sym c.eq.ensures ∙ c.if-eq.true)).mwh_small)

pub share_row-requires : goal.share_row-requires
share_row-requires c =
    let p = c.requires.1 in
    record {
      width = _;
      a = _;
      fits = going_fits _ _ _ _ _ _ _ _ p.given _ _ _ _ _ c.loop-j-test.true (c.loop-j.invariant p.a p.given p.listed) (sym c.eq.ensures ∙ c.if-eq.true);
      listed = p.listed;
    }

pub loop-j-preserved : goal.loop-j-preserved
loop-j-preserved c =
    let s = c.loop-j.invariant in
    let same = sym c.eq.ensures in
    elim c.if-eq.branch [
      | then-eq w ↦ λ a g l.
          let fits = going_fits _ _ _ _ _ _ _ _ g _ _ _ _ _ c.loop-j-test.true (s a g l) (same ∙ w.if-eq.true) in
          rw (w.cells-is, w.had-is, w.count-is, w.mwh-is) (going_take _ _ _ _ _ _ _ _ g _ _ _ _ _ _ _ (s a g l) (same ∙ w.if-eq.true) (w.share_row.ensures _ a fits l))
      | else-eq w ↦ λ a g l. rw (w.cells-is, w.had-is, w.count-is, w.mwh-is) (going_skip _ _ _ _ _ _ _ _ g _ _ _ _ _ (s a g l) (same ∙ w.if-eq.false))
    ]

pub returns : goal.returns
returns c = λ a g l. going_all _ _ _ _ _ _ _ _ g _ _ _ _ _ c.loop-j.auto.j-end c.loop-j-test.false (c.loop-j.invariant a g l)
