use Rattle.std.proofs.Common.{arith}
use Rattle.std.proofs.lemmas.Bool.Decides.{nat_tests}
use Rattle.moves.specs.MovesKept.{first_of}
use Rattle.moves.proofs.keep.Goals as goal

pub returns : goal.returns
unfolding first_of
returns c = grind (arith, nat_tests)
