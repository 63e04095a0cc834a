use Rattle.std.proofs.Common.{◌*◌, ◌≤◌, take}
use Rattle.members.specs.Leads.{Leading}
use Rattle.members.specs.Live.{amount_at, Listed}
use Rattle.rules.specs.Hour.{pair_width}
use Rattle.members.proofs.share_all.Given as goal

abbrev pub invariant-loop-i : goal.invariant-loop-i
invariant-loop-i l = (l.live.len ≤ l.i * pair_width) × Listed (amount_at l.states l.kept (l.j * 32)) (l.i * pair_width) (take l.live.len l.live.placed)

abbrev pub invariant-loop-j : goal.invariant-loop-j
invariant-loop-j l = Leading l.sources l.n l.mwhs l.keys l.led l.states l.kept l.initial.cells l.j l.cells
