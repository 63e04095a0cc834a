use Rattle.std.proofs.Common.{◌≡◌, Bool, ℕ}
use Rattle.rules.specs.Sequences.{matches}
use Rattle.rules.specs.declared.Delivery.{Delivery}
use Rattle.std.specs.Fn.{FnReturnsAt}
use Rattle.sequence.specs.Matches.{option_of, Tests, Picks}
use Rattle.sequence.proofs.best_match.Given as goal

abbrev pub invariant-loop-o : goal.invariant-loop-o
invariant-loop-o g l = (p : Delivery → Bool) → (f : ℕ → ℕ → ℕ) → Tests (FnReturnsAt g.F.Fn l.fits) p → Picks (goal.P-post g l.pick) f → l.found ≡ option_of (matches f p l.ts l.o-index)
