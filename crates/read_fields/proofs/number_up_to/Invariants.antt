use Rattle.std.proofs.Common.{◌≡◌, ◌≤◌, drop}
use Rattle.rules.specs.Fields.{run, number_at}
use Rattle.read_fields.specs.Answers.{number_cut}
use Rattle.read_fields.proofs.number_up_to.Given as goal

abbrev pub invariant-loop-i : goal.invariant-loop-i
invariant-loop-i g l = (l.v ≤ g.row.MOST) × (number_cut g.row.MOST (run l.v l.i (drop l.i l.s)) ≡ number_cut g.row.MOST (number_at l.s l.at))
