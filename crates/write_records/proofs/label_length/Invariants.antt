use mathlib.Core.Path.{◌≡◌}
use mathlib.Core.List.{[]}
use Prim.Native.Nat.{◌+◌, ◌*◌, ◌≤◌}
use lib.ListN.{length}
use Rattle.write_fields.specs.Inked.{up_to}
use Rattle.write_records.specs.Records.{doubled_at}
use Rattle.write_records.proofs.label_length.Given as goal

abbrev pub invariant-loop-c : goal.invariant-loop-c
invariant-loop-c l = (l.size ≤ l.c-index * 2 + 3) × (l.size ≡ length (up_to (doubled_at l.c-items) l.c-index []) + 3)
