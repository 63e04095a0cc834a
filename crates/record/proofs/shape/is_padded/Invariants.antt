use mathlib.Core.Path.{◌≡◌}
use Prim.Native.Nat.{◌≤◌}
use Rattle.record.specs.Shape.{padded_to}
use Rattle.record.proofs.shape.is_padded.Given as goal

abbrev pub invariant-loop-i : goal.invariant-loop-i
invariant-loop-i l = (l.i ≤ 16) × (l.all ≡ padded_to l.l l.i)
