use Rattle.write_fields.specs.Inked.{Inked, up_to}
use Rattle.write_records.specs.Records.{doubled_at}
use Rattle.write_records.proofs.put_doubled.Given as goal

abbrev pub invariant-loop-c : goal.invariant-loop-c
invariant-loop-c l = Inked l.initial.buf l.at l.buf l.p (up_to (doubled_at l.c-items) l.c-index)
