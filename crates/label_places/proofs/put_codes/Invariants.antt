use mathlib.Core.List.{◌++◌}
use Prim.Native.Nat.{◌+◌, ◌-◌, ◌≤◌}
use Rattle.write_fields.specs.Inked.{Inked}
use Rattle.label_places.specs.Codes.{codes}
use Rattle.label_places.proofs.put_codes.Given as goal

abbrev pub invariant-loop-i : goal.invariant-loop-i
invariant-loop-i l = (l.i ≤ l.n) × Inked l.initial.out l.at l.out (l.at + l.i) (λ rest. codes l.places l.i ++ rest)

abbrev pub decreases-loop-i : goal.decreases-loop-i
decreases-loop-i l = l.n - l.i
