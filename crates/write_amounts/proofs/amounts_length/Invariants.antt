use mathlib.Core.Path.{◌≡◌}
use mathlib.Core.List.{[]}
use lib.ListN.{length}
use Rattle.write_fields.specs.Inked.{up_to}
use Rattle.write_amounts.specs.Amounts.{amount_at}
use Rattle.write_amounts.proofs.amounts_length.Given as goal

abbrev pub invariant-loop-v : goal.invariant-loop-v
invariant-loop-v l = l.size ≡ length (up_to (amount_at 0 l.amounts) l.v-index [])
