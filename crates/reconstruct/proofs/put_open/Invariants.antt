use Rattle.reconstruct.specs.CellsWritten.{OpenPut}
use Rattle.reconstruct.proofs.put_open.Given as goal

abbrev pub invariant-loop-i : goal.invariant-loop-i
invariant-loop-i l = OpenPut l.states l.at l.i l.initial.cells l.cells
