use Rattle.groups.specs.RowKept.{carrying_more, carried_all}
use Rattle.groups.proofs.keep_all.Goals as goal

pub loop-i-preserved : goal.loop-i-preserved
loop-i-preserved c =
    let p = c.requires in
    let l = c.loop-i.invariant in
    (l.0, carrying_more _ _ _ _ _ _ _ _ p.0 c.loop-i-test.true p.1.n_small l.0 (p.1.ready _) (p.2.ready _) c.keep.ensures l.1)

pub returns : goal.returns
returns c = carried_all _ _ _ _ _ _ _ c.loop-i.auto.i-end c.loop-i-test.false c.loop-i.invariant.1
