use Rattle.std.proofs.Common.{refl, min, rules}
use Rattle.rules.specs.Sequences.{same_type, rule_d, before}
use Rattle.sequence.specs.Matches.{stepped}
use Rattle.sequence.proofs.rule_d.Goals as goal

pub returns : goal.returns
unfolding rule_d
returns c =
    let t = c.args.t.now in
    stepped before refl _ _ _ (c.best_match.ensures (same_type t) min (λ o b m. search rules) (λ x y r m. search rules)) (search rules)
