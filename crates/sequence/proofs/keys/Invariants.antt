use Rattle.std.proofs.Common.{◌≡◌}
use Rattle.sequence.specs.Placings.{placings_to}
use Rattle.sequence.proofs.keys.Given as goal

abbrev pub invariant-loop-j : goal.invariant-loop-j
invariant-loop-j l = l.placed ≡ placings_to l.ts l.fn.n l.j
