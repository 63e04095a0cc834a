use Rattle.deck.specs.Entries.{keeps_delivery}
use Rattle.deck.proofs.ScannedDeckEntries.push_delivery.Goals as goal

pub returns : goal.returns
returns c s h e w = keeps_delivery s h c.args.self.now w c.args.j c.args.x c.args.p c.requires e
