use mathlib.Core.Path.{◌≡◌}
use Prim.Native.Nat.{◌≤◌}
use Rattle.record.specs.Shape.{padded_to}
use Rattle.record.proofs.shape.is_blank_label.Given as goal

abbrev pub invariant-loop-at : goal.invariant-loop-at
invariant-loop-at l = (l.at ≤ 16) × (l.all ≡ padded_to l.l l.at)
