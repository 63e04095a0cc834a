use Rattle.std.proofs.Common.{rules}
use Rattle.rules.specs.Sequences.{placed}
use Rattle.sequence.specs.Matches.{otherwise_option}
use Rattle.sequence.proofs.place.Goals as goal

pub returns : goal.returns
unfolding placed
returns c = rw (otherwise_option, otherwise_option, otherwise_option, otherwise_option) (search rules)
