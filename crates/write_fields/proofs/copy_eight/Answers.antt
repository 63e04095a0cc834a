use Rattle.write_fields.specs.Inked.{inked_then}
use Rattle.write_fields.proofs.copy_eight.Goals as goal

pub returns : goal.returns
returns c =
    inked_then c.put_two-p.ensures (inked_then c.put_two-q.ensures (inked_then c.put_two-r.ensures c.put_two.ensures))
