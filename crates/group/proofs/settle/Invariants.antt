use mathlib.Core.Path.{◌≡◌}
use Prim.Native.Nat.{◌*◌, ◌-◌, ◌≤◌}
use Rattle.dispatch.specs.TakenIsPlain.{LinesOf}
use Rattle.group.specs.Settling.{Trying}
use Rattle.ladder.specs.Ways.{way_of, up_of}
use Rattle.cutoff.specs.Lines.{at}
use Rattle.rules.specs.Group.{all}
use Rattle.ladder.specs.Ready.{Shifted}
use Rattle.group.proofs.settle.Given as goal

abbrev pub invariant-loop-i : goal.invariant-loop-i
invariant-loop-i l =
    (l.sum ≤ l.i * 2000) × (l.sum ≡ all (way_of l.way).room l.states l.i) × LinesOf (up_of l.way) (way_of l.way).room l.states l.one l.step l.cap l.i

abbrev pub invariant-loop-k : goal.invariant-loop-k
invariant-loop-k l = Shifted l.up l.initial.states l.k (at l.taken) l.states

abbrev pub invariant-loop-tried : goal.invariant-loop-tried
invariant-loop-tried l =
    Trying l.up l.n l.initial.states l.rest l.one l.step l.cap l.states l.tried
