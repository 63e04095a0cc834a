use mathlib.Core.Bool.{true}
use Rattle.ladder.specs.Ready.{unit_lined, purchase_lined, fixed_lined}
use Rattle.ladder.proofs.shift.up_top.Goals as goal

pub returns-in-Unit : goal.returns-in-Unit
returns-in-Unit c =
    rw c.in-Unit.is
    (unit_lined true c.in-Unit.u _ (rw (c.b.ensures, c.c.ensures, c.r.ensures) at c.credit_top.ensures))

pub returns-in-Purchase : goal.returns-in-Purchase
returns-in-Purchase c =
    rw c.in-Purchase.is (purchase_lined true c.in-Purchase.g c.in-Purchase.rate _ _ c.credit_top-in-Purchase.ensures)

pub returns-in-Fixed : goal.returns-in-Fixed
returns-in-Fixed c =
    rw c.in-Fixed.is (fixed_lined true c.in-Fixed.g _ _ c.credit_top-in-Fixed.ensures)
