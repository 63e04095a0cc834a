use Rattle.members.specs.MwhsListed.{Mwhs}
use Rattle.members.proofs.list_mwhs.Given as goal

abbrev pub invariant-loop-j : goal.invariant-loop-j
invariant-loop-j l = Mwhs l.ts l.j l.mwhs
