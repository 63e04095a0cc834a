use mathlib.Core.Path.{◌≡◌}
use lib.ListN.{drop}
use Rattle.rules.specs.Spreadsheet.{text_at}
use Rattle.read_records.proofs.text_at.Given as goal

abbrev pub invariant-loop-b : goal.invariant-loop-b
invariant-loop-b l = text_at l.s l.p (drop l.b-index l.text) ≡ text_at l.s l.at l.text
