use Rattle.std.proofs.Common.{◌-◌, ◌≤◌}
use Rattle.cutoff.proofs.guess.flats_at.Given as goal

abbrev pub invariant-loop-i : goal.invariant-loop-i
invariant-loop-i l = l.i ≤ l.n
