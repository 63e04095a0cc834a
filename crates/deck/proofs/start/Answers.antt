use Rattle.std.proofs.Common.{refl}
use Rattle.rules.specs.Record as record_of
use Rattle.deck.proofs.start.Goals as goal

pub returns : goal.returns
unfolding record_of.started
returns c = refl
