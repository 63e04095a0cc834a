use mathlib.Core.Path.{refl}
use native.Mathlib.Omega.{arith}
use Rattle.curve.proofs.Products.{heat_small}
use Rattle.curve.proofs.heat_of.Goals as goal

pub overflow_mul-result : goal.overflow_mul-result
overflow_mul-result c = omega (arith, heat_small (record { k = 0; a = c.args.a; b = c.args.b; c = c.args.c; r = c.args.r }) c.args.m c.requires.0 c.requires.1)

pub returns : goal.returns
returns c = (refl, heat_small (record { k = 0; a = c.args.a; b = c.args.b; c = c.args.c; r = c.args.r }) c.args.m c.requires.0 c.requires.1)
