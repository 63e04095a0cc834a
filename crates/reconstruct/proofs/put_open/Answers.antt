use native.Mathlib.Omega.{arith}
use Rattle.reconstruct.specs.CellsWritten.{amounts_small, open_more}
use Rattle.reconstruct.proofs.put_open.Goals as goal

pub put_amounts-requires : goal.put_amounts-requires
put_amounts-requires c =
    let f = c.requires in
    record {
      low = omega (arith, f.low, f.few, c.loop-i-test.true);
      room = omega (arith, f.room, c.loop-i.invariant.long, c.loop-i-test.true);
      small = amounts_small _ _ (f.ready _ c.loop-i-test.true) c.open_amounts.ensures;
    }

pub loop-i-preserved : goal.loop-i-preserved
loop-i-preserved c = open_more _ _ _ _ _ _ _ c.loop-i.invariant c.open_amounts.ensures c.put_amounts.ensures
