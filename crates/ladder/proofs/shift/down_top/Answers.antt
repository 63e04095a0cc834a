use mathlib.Core.Bool.{false}
use Rattle.ladder.specs.Ready.{unit_lined, purchase_lined, fixed_lined}
use Rattle.ladder.proofs.shift.down_top.Goals as goal

pub returns-in-Unit : goal.returns-in-Unit
returns-in-Unit c =
    rw c.in-Unit.is
    (unit_lined false c.in-Unit.u _ (rw (c.b.ensures, c.c.ensures, c.r.ensures) at c.unload_top.ensures))

pub returns-in-Purchase : goal.returns-in-Purchase
returns-in-Purchase c =
    rw c.in-Purchase.is (purchase_lined false c.in-Purchase.g c.in-Purchase.rate _ _ c.unload_top-in-Purchase.ensures)

pub returns-in-Fixed : goal.returns-in-Fixed
returns-in-Fixed c =
    rw c.in-Fixed.is (fixed_lined false c.in-Fixed.g _ _ c.unload_top-in-Fixed.ensures)
