use Prim.Native.Nat.{◌≤◌, min}
use Rattle.record.specs.Steps.{SourcesTo, DeliveriesTo, DirectsTo}
use Rattle.record.proofs.valid.Given as goal

abbrev pub invariant-loop-i : goal.invariant-loop-i
invariant-loop-i l = (l.i ≤ 32) × SourcesTo l.h l.slo l.shi l.high l.totals l.i (min l.i l.h.nsources)

abbrev pub invariant-loop-j : goal.invariant-loop-j
invariant-loop-j l = (l.j ≤ 32) × DeliveriesTo l.h l.tlo l.thi l.totals l.j (min l.j l.h.ndeliveries)

abbrev pub invariant-loop-k : goal.invariant-loop-k
invariant-loop-k l = (l.k ≤ 32) × DirectsTo l.h l.based l.percents l.k (min l.k l.h.ndirects)
