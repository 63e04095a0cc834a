use mathlib.Core.Path.{ap}
use mathlib.Core.List.{[]}
use lib.ListN.{length}
use Rattle.write_records.specs.Records.{end_made}
use Rattle.write_records.proofs.end_length.Goals as goal

pub returns : goal.returns
returns c = ap length (end_made [])
