use Rattle.reconstruct.specs.CellsWritten.{AmountsPut}
use Rattle.reconstruct.proofs.put_amounts.Given as goal

abbrev pub invariant-loop-item : goal.invariant-loop-item
invariant-loop-item l = AmountsPut l.at l.amount-items l.item l.initial.cells l.cells
