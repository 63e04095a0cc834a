use Rattle.std.proofs.Common.{◌≡◌, ◌-◌, ◌≤◌}
use Rattle.cutoff.specs.Lines.{stock_at}
use Rattle.rules.specs.Words.{sum_to}
use Rattle.cutoff.proofs.supply.Given as goal

abbrev pub invariant-loop-i : goal.invariant-loop-i
invariant-loop-i l = (l.i ≤ l.n) × (l.sum ≡ sum_to (stock_at l.one l.step l.span l.inv l.p) l.i)
