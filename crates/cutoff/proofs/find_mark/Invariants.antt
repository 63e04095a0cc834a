use Rattle.std.proofs.Common.{◌-◌, ◌≤◌}
use Rattle.cutoff.specs.Lines.{Marked}
use Rattle.cutoff.proofs.find_mark.Given as goal

abbrev pub invariant-loop-round : goal.invariant-loop-round
invariant-loop-round l = (l.round ≤ 64) × Marked l.one l.step l.span l.inv l.n l.total l.best.merit l.best.sum

abbrev pub decreases-loop-round : goal.decreases-loop-round
decreases-loop-round l = 64 - l.round
