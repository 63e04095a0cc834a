use mathlib.Core.Option.{none}
use mathlib.Core.Path.{◌≡◌}
use Prim.Native.Nat.{◌≤◌}
use Rattle.line_rules.specs.Spellings.{spelling_to}
use Rattle.line_rules.proofs.find_spelling.Given as goal

abbrev pub invariant-loop-i : goal.invariant-loop-i
invariant-loop-i l = (l.i ≤ l.n) × (spelling_to l.lo l.hi l.k l.i ≡ none)
