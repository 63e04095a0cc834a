use Rattle.laws.specs.Parts.{up_to_all}
use Rattle.members.proofs.part.Goals as goal

pub returns-then-mwh-total : goal.returns-then-mwh-total
returns-then-mwh-total c =
    let a = c.args in up_to_all a.total a.size a.count a.mwh c.if-mwh-total.true c.requires.2
