use Rattle.write_fields.specs.Inked.{Inked, up_to}
use Rattle.write_fields.specs.Texts.{spaced_at}
use Rattle.write_fields.proofs.put_numbers.Given as goal

abbrev pub invariant-loop-v : goal.invariant-loop-v
invariant-loop-v l = Inked l.initial.buf l.at l.buf l.p (up_to (spaced_at l.vs) l.v-index)
