use mathlib.Core.Path.{◌∙◌, ap}
use Prim.Native.Nat.{ℕ, ◌-◌}
use native.Mathlib.Omega.{arith}
use Rattle.curve.proofs.Rooms.{unit_low, unit_up, purchase_up, fixed_up}
use Rattle.curve.proofs.headroom_of.Goals as goal

pub returns-then-s-less : goal.returns-then-s-less
returns-then-s-less c =
    unit_low c.args.s c.in-Unit.u c.in-Unit.is (omega (arith, c.less.ensures, c.if-s-less.true))

pub returns-else-s-less : goal.returns-else-s-less
returns-else-s-less c =
    let s = c.args.s in
    c.less-in-Unit-2.ensures ∙ ap (λ (x : ℕ). x - s.d) c.less-in-Unit.ensures
    ∙ unit_up s c.in-Unit.u c.in-Unit.is (omega (arith, c.less.ensures, c.if-s-less.false))

pub returns-in-Purchase : goal.returns-in-Purchase
returns-in-Purchase c =
    c.less-in-Purchase.ensures ∙ purchase_up c.args.s _ _ c.in-Purchase.is

pub returns-in-Fixed : goal.returns-in-Fixed
returns-in-Fixed c =
    fixed_up c.args.s _ c.in-Fixed.is
