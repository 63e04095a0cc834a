use Prim.Native.Nat.{◌-◌}
use lib.ListN.{length}
use Rattle.print_file.specs.Lines.{Begun}
use Rattle.print_file.proofs.put_lines.Given as goal

abbrev pub invariant-loop-x : goal.invariant-loop-x
invariant-loop-x l = Begun l.file l.initial.out l.p l.out l.q

abbrev pub decreases-loop-x : goal.decreases-loop-x
decreases-loop-x l = length l.file - l.p
