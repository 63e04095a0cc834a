use Rattle.write_fields.specs.Inked.{Inked}
use Rattle.write_amounts.specs.Amounts.{zeros_after}
use Rattle.write_amounts.proofs.put_zeros.Given as goal

abbrev pub invariant-loop : goal.invariant-loop
invariant-loop l = Inked l.initial.buf l.at l.buf l.p (zeros_after l.lead l.counter)
