use Rattle.deck.specs.Entries.{keeps_source}
use Rattle.deck.proofs.ScannedDeckEntries.push_source.Goals as goal

pub returns : goal.returns
returns c s h e w = keeps_source s h c.args.self.now w c.args.i c.args.x c.args.p c.requires e
