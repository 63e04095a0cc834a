use Rattle.std.proofs.Common.{◌≡◌, ◌≤◌, ◌+◌, ◌-◌, false, length}
use Rattle.std.specs.Slice.Iter.{iter_rest}
use Rattle.rules.specs.Fields.{closing, label_end}
use Rattle.read_fields.proofs.read_label.Given as goal

abbrev pub invariant-loop-b : goal.invariant-loop-b
invariant-loop-b l =
    (l.n + length (iter_rest l.bytes) + 1 ≤ length l.part)
    × (closing false l.n (length l.part - length (iter_rest l.bytes)) (iter_rest l.bytes) ≡ label_end l.part)

abbrev pub decreases-loop-b : goal.decreases-loop-b
decreases-loop-b l = length (iter_rest l.bytes)
