use Rattle.std.proofs.Common.{refl, true, min, rules}
use Rattle.rules.specs.Sequences.{rule_e, before}
use Rattle.sequence.specs.Matches.{stepped}
use Rattle.sequence.proofs.rule_e.Goals as goal

pub returns : goal.returns
unfolding rule_e
returns c =
    stepped before refl _ _ _ (c.best_match.ensures (λ o. true) min (λ o b m. search rules) (λ x y r m. search rules)) (search rules)
