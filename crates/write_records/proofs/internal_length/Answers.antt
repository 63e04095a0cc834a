use mathlib.Core.Path.{ap}
use mathlib.Core.List.{[]}
use native.Mathlib.Omega.{arith}
use lib.ListN.{length}
use Rattle.rules.specs.Record.{chars}
use Rattle.write_records.specs.Records.{internal_made}
use Rattle.write_records.proofs.internal_length.Goals as goal

pub returns : goal.returns
returns c =
    let a = c.args in
    (omega (arith, ap length (internal_made (chars a.source) a.amounts.now []), c.source_length.ensures.0), omega (arith, c.source_length.ensures.1))
