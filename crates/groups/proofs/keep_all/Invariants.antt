use mathlib.Core.Path.{◌≡◌}
use lib.ListN.{length}
use Rattle.groups.specs.RowKept.{Carrying}
use Rattle.groups.proofs.keep_all.Given as goal

abbrev pub invariant-loop-i : goal.invariant-loop-i
invariant-loop-i l = (length l.from ≡ 32) × Carrying l.lead l.n l.from l.to l.initial.kept l.i l.kept
