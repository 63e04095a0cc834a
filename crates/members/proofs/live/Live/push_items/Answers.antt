use Rattle.std.proofs.Common.{◌≡◌, ◌+◌, arith}
use Rattle.members.specs.Live.{listed_pushed}
use Rattle.members.proofs.live.Live.push_items.Goals as goal

pub loop-item-preserved : goal.loop-item-preserved
loop-item-preserved c =
    let from = c.args.from in
    let k = c.loop-item.item in
    let e : from + (k + 1) ≡ from + k + 1 = omega arith in
    (omega (arith, c.push.ensures.few), λ a t l. rw (e, c.push.ensures.listed) (listed_pushed a (from + k) _ (c.loop-item.invariant.1 a t l) _ (t k (omega arith))))
