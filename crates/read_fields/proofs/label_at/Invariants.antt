use Rattle.std.proofs.Common.{◌≡◌, length}
use Rattle.read_fields.proofs.Characters.{Filled}
use Rattle.read_fields.proofs.label_at.Given as goal

abbrev pub invariant-loop-b : goal.invariant-loop-b
invariant-loop-b l = (length l.bytes ≡ 16) × Filled l.part l.bytes l.n l.escaped l.b-index
