use Rattle.std.proofs.Common.{refl, ◌&&◌, eqb, min, rules}
use Rattle.rules.specs.Sequences.{same_type, rule_a, before}
use Rattle.sequence.specs.Matches.{stepped}
use Rattle.sequence.proofs.rule_a.Goals as goal

pub returns : goal.returns
unfolding rule_a
returns c =
    let t = c.args.t.now in
    stepped before refl _ _ _ (c.best_match.ensures (λ o. same_type t o && eqb o.block t.block) min (λ o b m. search rules) (λ x y r m. search rules)) (search rules)
