use Rattle.std.proofs.Common.{rules, arith}
use Rattle.std.proofs.lemmas.Grind.{common_steps}
use Rattle.sequence.specs.NextKey.{next_found}
use Rattle.sequence.proofs.next_after.Goals as goal

pub returns : goal.returns
returns c = next_found _ _ _ (search rules) _ (search rules) (search rules) (grind (arith, common_steps))
