use Prim.Native.Nat.{ℕ}
use Rattle.members.specs.Live.{Listed}
use Rattle.members.specs.Members.{RowsGiven, Going}
use Rattle.rules.specs.Group.{Amount}
use Rattle.rules.specs.Hour.{key_at}
use Rattle.members.proofs.share_rows.Given as goal

abbrev pub invariant-loop-j : goal.invariant-loop-j
invariant-loop-j l =
    (a : ℕ → Amount) → RowsGiven l.width l.n l.mwhs l.keys (key_at l.keys l.lead) l.total a l.initial.cells → Listed a l.width l.live
    → Going l.width l.mwhs l.keys (key_at l.keys l.lead) l.total a l.initial.cells l.j l.count l.mwh l.had l.cells
