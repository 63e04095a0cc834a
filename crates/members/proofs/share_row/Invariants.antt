use Rattle.std.proofs.Common.{ℕ}
use Rattle.members.specs.Live.{reached, Listed}
use Rattle.members.specs.Rows.{RowFits, Row}
use Rattle.rules.specs.Group.{Amount}
use Rattle.members.proofs.share_row.Given as goal

abbrev pub invariant-loop-p : goal.invariant-loop-p
invariant-loop-p l =
    (width : ℕ) → (a : ℕ → Amount) → RowFits l.at width l.total l.count l.mwh a l.initial.had l.initial.cells → Listed a width l.live
    → Row l.at l.total l.count l.mwh a l.initial.had l.initial.cells (reached l.live l.p-index) l.had l.cells
