use Rattle.write_fields.specs.Inked.{inked_then}
use Rattle.write_deck.proofs.put_name.Goals as goal

pub returns : goal.returns
returns c =
    inked_then c.put_byte-p.ensures c.put_label.ensures
