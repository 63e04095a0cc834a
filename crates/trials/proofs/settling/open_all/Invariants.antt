use Rattle.groups.specs.StatesOpened.{Opened}
use Rattle.trials.proofs.settling.open_all.Given as goal

abbrev pub invariant-loop-i : goal.invariant-loop-i
invariant-loop-i l = Opened l.sources l.i l.states
