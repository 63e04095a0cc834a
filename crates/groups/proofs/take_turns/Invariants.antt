use mathlib.Core.Path.{◌≡◌}
use lib.ListN.{length}
use Rattle.cutoff.specs.Lines.{at}
use Rattle.group.specs.FirstWay.{FirstLines}
use Rattle.groups.specs.GroupTurns.{past, Between}
use Rattle.groups.specs.LinesTaken.{LinesTaken}
use Rattle.groups.specs.RowKept.{RowKept, Carried}
use Rattle.groups.specs.StatesOpened.{Opened}
use Rattle.ladder.specs.Ready.{Shifted}
use Rattle.rules.specs.Hour.{member}
use Rattle.groups.proofs.take_turns.Given as goal

abbrev pub invariant-loop-a : goal.invariant-loop-a
invariant-loop-a l =
    Opened l.h.sources l.a l.states × FirstLines l.states l.step l.down l.room l.above l.head l.a

abbrev pub invariant-loop-q : goal.invariant-loop-q
invariant-loop-q l =
    LinesTaken (member l.keys l.key) l.h.directs l.initial.states l.n l.q l.states l.took × RowKept l.lead l.n l.initial.states l.initial.kept l.states l.kept × FirstLines l.states l.step l.down l.room l.above l.head l.n × (length l.states ≡ 32)

abbrev pub invariant-loop-i : goal.invariant-loop-i
invariant-loop-i l =
    Shifted l.up l.initial.states l.i (at l.taken) l.states × Carried l.lead l.n l.initial.states l.initial.kept l.states l.kept × FirstLines l.states l.step l.down l.room l.above l.head l.n × (length l.states ≡ 32)

abbrev pub invariant-loop-next : goal.invariant-loop-next
invariant-loop-next l =
    Between l.h l.keys l.next l.states l.led l.kept × FirstLines l.states l.step l.down l.room l.above l.head l.n × (length l.states ≡ 32)

abbrev pub decreases-loop-next : goal.decreases-loop-next
decreases-loop-next l = past l.next
