use Rattle.std.proofs.Common.{Bool, length, sym, ◌∙◌, refl, ◌&&◌, not, eqb, ◌-◌, max, rules}
use Rattle.rules.specs.Sequences.{same_type, rule_c, after}
use Rattle.sequence.specs.Matches.{stepped, greatest_small}
use Rattle.rules.specs.declared.Delivery.{Delivery}
use Rattle.sequence.proofs.rule_c.Goals as goal

pub returns : goal.returns
unfolding rule_c
returns c =
    let t = c.args.t.now in
    stepped after refl _ _ _ (c.best_match.ensures (λ o. same_type t o && not (eqb (t.block - 1) 0) && eqb o.block (t.block - 1)) max (λ o b m. search rules) (λ x y r m. search rules)) (search rules)

pub map-requires : goal.map-requires
map-requires c = λ x e.
    let t = c.args.t.now in
    let p : Delivery → Bool = λ o. same_type t o && not (eqb (t.block - 1) 0) && eqb o.block (t.block - 1) in
    greatest_small p c.args.ts.now (length c.args.ts.now) c.requires.sequence x (sym e ∙ c.best_match.ensures p max (λ o b m. search rules) (λ x y r m. search rules))
