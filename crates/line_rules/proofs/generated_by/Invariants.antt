use mathlib.Core.Path.{◌≡◌}
use Prim.Native.Nat.{◌*◌, ◌≤◌}
use Rattle.line_rules.specs.Tried.{above_one, generated_to}
use Rattle.line_rules.proofs.generated_by.Given as goal

abbrev pub invariant-loop-i : goal.invariant-loop-i
invariant-loop-i l = (l.i ≤ l.n) × (l.sum ≤ l.i * above_one) × (l.sum ≡ generated_to l.sources l.i)
