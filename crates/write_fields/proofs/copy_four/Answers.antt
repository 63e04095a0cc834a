use Rattle.write_fields.specs.Inked.{inked_then}
use Rattle.write_fields.proofs.copy_four.Goals as goal

pub returns : goal.returns
returns c =
    inked_then c.put_two-p.ensures c.put_two.ensures
