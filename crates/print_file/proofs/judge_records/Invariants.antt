use mathlib.Core.Path.{◌≡◌}
use Prim.Native.Nat.{◌+◌, ◌-◌, ◌≤◌}
use lib.ListN.{length}
use Rattle.rules.specs.Spreadsheet.{headed}
use Rattle.print_file.specs.Judging.{stage_of, lines_from, judged}
use Rattle.print_file.proofs.judge_records.Given as goal

abbrev pub invariant-loop-stage : goal.invariant-loop-stage
invariant-loop-stage l = (l.k ≤ l.p + 2) × (judged (lines_from l.file (stage_of l.stage) l.k l.p) l.left ≡ judged (lines_from l.file headed 2 l.at) l.room)

abbrev pub decreases-loop-stage : goal.decreases-loop-stage
decreases-loop-stage l = length l.file - l.p
