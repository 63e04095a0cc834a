use Rattle.ladder.specs.LastStep.{emergency_ready, emergency_enough}
use Rattle.ladder.proofs.below_emergency.Goals as goal

pub last_step-requires-clause-all_ready : goal.last_step-requires-clause-all_ready
last_step-requires-clause-all_ready c = rw c.to_emergency.ensures (emergency_ready _ _ c.requires.all_ready)

pub last_step-requires-clause-room : goal.last_step-requires-clause-room
last_step-requires-clause-room c = rw c.to_emergency.ensures (emergency_enough _ _ c.requires.all_ready _ c.requires.room)
