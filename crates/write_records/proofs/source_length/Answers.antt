use native.Mathlib.Omega.{arith}
use Rattle.rules.specs.Record.{chars}
use Rattle.write_records.specs.Records.{source_length}
use Rattle.write_records.proofs.source_length.Goals as goal

pub returns : goal.returns
returns c =
    let a = c.args in
    (omega (arith, source_length (chars a.source) a.amounts.now, c.label_length.ensures.0, c.last_length.ensures.0), omega (arith, c.label_length.ensures.1, c.last_length.ensures.1))
