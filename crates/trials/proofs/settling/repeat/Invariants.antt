use Rattle.std.proofs.Common.{◌-◌, ◌≤◌}
use Rattle.trials.proofs.settling.repeat.Given as goal

abbrev pub invariant-loop-turn : goal.invariant-loop-turn
invariant-loop-turn l = l.turn ≤ l.times

abbrev pub decreases-loop-turn : goal.decreases-loop-turn
decreases-loop-turn l = l.times - l.turn
