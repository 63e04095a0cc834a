use mathlib.Core.Path.{◌∙◌, ap}
use Prim.Native.Nat.{ℕ, ◌*◌, ◌/◌}
use native.Mathlib.Omega.{arith}
use borrow.Author.Tests.{not-true, not-false}
use Rattle.merit.specs.NumbersStaySmall.{changed_small}
use Rattle.curve.proofs.Costs.{not_based, above_b, to_b}
use Rattle.curve.proofs.changed_cost.Goals as goal

pub returns-then-not-s : goal.returns-then-not-s
returns-then-not-s c =
    (c.plant_cost.ensures.0 ∙ not_based c.args.s c.args.m (not-true _ c.if-not-s.true), c.plant_cost.ensures.1)

pub returns-then-b-m : goal.returns-then-b-m
returns-then-b-m c =
    (c.plant_cost-then-b-m.ensures.0 ∙ above_b c.args.s c.args.m (not-false _ c.if-not-s.false) c.if-b-m.true, c.plant_cost-then-b-m.ensures.1)

pub returns : goal.returns
returns c =
    let e = c.part.ensures ∙ ap (λ (x : ℕ). x * c.args.m / c.args.s.b) c.plant_cost-2.ensures.0
    ∙ to_b c.args.s c.args.m (not-false _ c.if-not-s.false) c.if-b-m.false in
    (e, omega (arith, e, changed_small c.args.s c.requires.0 c.args.m c.requires.1))
