use Rattle.std.proofs.Common.{arith}
use Rattle.std.proofs.lemmas.Bool.Decides.{nat_tests}
use Rattle.rules.specs.Sequences.{numbered}
use Rattle.sequence.proofs.number.Goals as goal

pub returns-then-t-eq0 : goal.returns-then-t-eq0
unfolding numbered
returns-then-t-eq0 c = grind (arith, nat_tests)

pub returns : goal.returns
unfolding numbered
returns c = grind (arith, nat_tests)
