use Rattle.label_places.specs.Codes.{codes_none, codes_more}
use borrow.Author.Rules.{rules}
use Rattle.label_places.proofs.put_codes.Goals as goal

pub loop-i-init : goal.loop-i-init
loop-i-init c =
    let a = c.args in
    (search rules, codes_none a.out.now a.at a.places.now)

pub loop-i-preserved : goal.loop-i-preserved
loop-i-preserved c =
    let a = c.args in
    (search rules, codes_more a.out.now c.loop-i.out a.at c.loop-i.i a.places.now _ c.code_of.ensures c.loop-i.invariant.1)
