use mathlib.Core.Path.{◌≡◌}
use Prim.Native.Nat.{◌+◌, ◌^◌, ◌≤◌, ◌<◌}
use lib.ListN.{get_or}
use Rattle.line_rules.specs.Spellings.{base256}
use Rattle.line_rules.proofs.half_of.Given as goal

abbrev pub invariant-loop-i : goal.invariant-loop-i
invariant-loop-i l = (l.i ≤ 8) × (l.half < 256 ^ l.i) × (l.half ≡ base256 (λ k. get_or l.bytes (l.from + k) 0) l.i)
