use Rattle.dispatch.specs.LinesOfPrices.{down_lined}
use Rattle.dispatch.proofs.unload_top.Goals as goal

pub returns : goal.returns
returns c = rw c.price_at.ensures.0 (down_lined c.requires.numbers _ _ c.requires.room.0 c.requires.room.1)
