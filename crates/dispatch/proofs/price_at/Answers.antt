use mathlib.Core.Path.{refl}
use native.Mathlib.Omega.{arith}
use Rattle.dispatch.specs.LinesOfPrices.{line_price, price_small}
use Rattle.dispatch.proofs.price_at.Goals as goal

pub returns : goal.returns
unfolding line_price
returns c = (refl, omega (arith, price_small c.requires.numbers c.args.m c.requires.level.1))
