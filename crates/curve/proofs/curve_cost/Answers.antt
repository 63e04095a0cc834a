use mathlib.Core.Path.{◌∙◌, ap}
use Prim.Native.Nat.{ℕ, ◌*◌, ◌/◌}
use native.Mathlib.Omega.{arith}
use Rattle.curve.proofs.Costs.{curve_small, from_start, below_start}
use Rattle.curve.proofs.curve_cost.Goals as goal

pub returns-then-k-m : goal.returns-then-k-m
returns-then-k-m c =
    let s = c.args in
    (c.heat_at.ensures.0 ∙ from_start s.c s.m (omega (arith, c.k-k.ensures, c.if-k-m.true)), c.heat_at.ensures.1)

pub returns : goal.returns
returns c =
    let k = c.k-k.ensures in
    let e = rw k at (c.part.ensures ∙ ap (λ (x : ℕ). x * c.args.m / c.k-k.result) c.heat_at-2.ensures.0)
    ∙ below_start c.args.c c.args.m (omega (arith, k, c.if-k-m.false)) in
    (e, omega (arith, e, curve_small c.args.c c.args.m c.requires.0 c.requires.1))
