use Rattle.write_fields.specs.Inked.{inked_then}
use Rattle.write_fields.proofs.put_two.Goals as goal

pub returns : goal.returns
returns c =
    inked_then c.put_byte-p.ensures c.put_byte.ensures
