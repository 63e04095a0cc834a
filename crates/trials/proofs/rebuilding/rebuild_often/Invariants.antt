use Rattle.std.proofs.Common.{◌≡◌, ◌-◌, ◌≤◌, length}
use Rattle.trials.proofs.rebuilding.rebuild_often.Given as goal

abbrev pub invariant-loop-turn : goal.invariant-loop-turn
invariant-loop-turn l = (l.turn ≤ l.times) × (length l.out ≡ length l.initial.out)

abbrev pub decreases-loop-turn : goal.decreases-loop-turn
decreases-loop-turn l = l.times - l.turn
