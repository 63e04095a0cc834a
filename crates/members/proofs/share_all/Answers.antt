use Rattle.std.proofs.Common.{refl, ◌≡◌, ◌+◌, ◌*◌, arith}
use Rattle.members.specs.Leads.{leading_skip, leading_given, leading_take}
use Rattle.members.specs.Live.{source_none, listed_none, listed_idle, items_told}
use Rattle.rules.specs.Hour.{pair_width}
use Rattle.members.proofs.share_all.Goals as goal
use Rattle.members.proofs.share_all.Goals.{then-has_moved, else-has_moved, then-t-gt0+else-loop-i-test, else-t-gt0}

pub loop-i-init : goal.loop-i-init
loop-i-init c = rw c.clear.ensures (omega arith, listed_none _)

pub push_items-requires : goal.push_items-requires
push_items-requires c = (c.loop-i.invariant.0, omega (arith, c.loop-i-test.true, c.requires.few))

pub loop-i-preserved : goal.loop-i-preserved
loop-i-preserved c =
    let es = c.args.states.now in
    let kept = c.args.kept.now in
    let from = c.loop-j.j * 32 in
    let i = c.loop-i.i in
    let l = c.loop-i.invariant in
    let e : (i + 1) * pair_width ≡ i * pair_width + pair_width = omega arith in
    elim c.if-has_moved.branch [
      | then-has_moved w ↦ rw (w.live-is, e) (w.push_items.ensures.few, w.push_items.ensures.listed _ (items_told es kept from i w.told.result w.told.ensures) l.1)
      | else-has_moved w ↦ rw w.live-is (omega (arith, l.0), listed_idle _ _ _ _ (omega arith) (source_none es kept from i (c.has_moved.ensures w.if-has_moved.false)) l.1)
    ]

pub share_rows-requires : goal.share_rows-requires
share_rows-requires c =
    let given = leading_given _ _ _ _ _ _ _ _ c.requires _ c.loop-j-test.true (omega (arith, c.if-t-gt0.true)) _ _ refl c.loop-j.invariant in
    let whole : c.loop-i.i ≡ c.args.sources = omega (arith, c.loop-i.auto.i-end, c.loop-i-test.false) in
    (omega (arith, c.requires.mwhs.few, c.loop-j-test.true), record { a = _; given = given; listed = rw c.as_slice.ensures (rw whole at c.loop-i.invariant.1) })

pub loop-j-preserved : goal.loop-j-preserved
loop-j-preserved c =
    let l = c.loop-j.invariant in
    let t = c.loop-j-test.true in
    elim c.if-t-gt0.branch [
      | then-t-gt0+else-loop-i-test w ↦
          let given = leading_given _ _ _ _ _ _ _ _ c.requires _ t (omega (arith, w.if-t-gt0.true)) _ _ refl l in
          let whole : w.loop-i.i ≡ c.args.sources = omega (arith, w.loop-i.auto.i-end, w.loop-i-test.false) in
          rw w.cells-is (leading_take _ _ _ _ _ _ _ _ c.requires _ t (omega (arith, w.if-t-gt0.true)) _ _ _ refl l (w.share_rows.ensures _ given (rw w.as_slice.ensures (rw whole at w.loop-i.invariant.1))))
      | else-t-gt0 w ↦ rw w.cells-is (leading_skip _ _ _ _ _ _ _ _ c.requires _ _ (omega (arith, w.if-t-gt0.false)) l)
    ]
