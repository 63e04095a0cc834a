use Rattle.ladder.specs.LastStep.{Stepping}
use Rattle.ladder.proofs.last_step.Given as goal

abbrev pub invariant-loop-rest : goal.invariant-loop-rest
invariant-loop-rest l = Stepping l.initial.states l.n l.total l.states l.rest

abbrev pub decreases-loop-rest : goal.decreases-loop-rest
decreases-loop-rest l = l.rest
