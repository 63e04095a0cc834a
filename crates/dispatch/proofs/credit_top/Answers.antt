use native.Mathlib.Omega.{arith}
use Rattle.dispatch.specs.LinesOfPrices.{up_lined}
use Rattle.dispatch.proofs.credit_top.Goals as goal

pub returns : goal.returns
returns c = rw c.price_at.ensures.0 (up_lined c.requires.numbers _ _ (omega arith) c.requires.room)
