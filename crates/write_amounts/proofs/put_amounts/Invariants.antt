use Rattle.write_fields.specs.Inked.{Inked, up_to}
use Rattle.write_amounts.specs.Amounts.{amount_at}
use Rattle.write_amounts.proofs.put_amounts.Given as goal

abbrev pub invariant-loop-v : goal.invariant-loop-v
invariant-loop-v l = Inked l.initial.buf l.at l.buf l.p (up_to (amount_at l.lead l.amounts) l.v-index)
