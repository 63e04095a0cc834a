use mathlib.Core.Path.{ap}
use mathlib.Core.List.{[]}
use native.Mathlib.Omega.{arith}
use lib.ListN.{length}
use Rattle.write_records.specs.Records.{hour_made}
use Rattle.write_records.proofs.hour_length.Goals as goal

pub returns : goal.returns
returns c =
    (omega (arith, ap length (hour_made c.args.amounts.now []), c.last_length.ensures.0), omega (arith, c.last_length.ensures.1))
