use mathlib.Core.Path.{◌≡◌, refl, sym, ap, ◌∙◌}
use native.Mathlib.Omega.{arith}
use lib.Dec.{ltb}
use lib.ListN.{set}
use Rattle.dispatch.specs.Taken.{Taken}
use Rattle.group.specs.Settling.{states_of, settled_done, way_side, way_priced, remainder_by, remainder_outcome}
use Rattle.ladder.specs.Ways.{way_of, up_of, lines_next, long_lines, lines_done, lines_room, taken_within, engine_plain}
use Rattle.laws.specs.Sums.{sum_to_none, sum_to_more, sum_to_end}
use Rattle.cutoff.specs.Lines.{at}
use Rattle.rules.specs.Answers.{verdict_of}
use Rattle.ladder.specs.Ready.{AllWithin, shifted_all}
use Rattle.group.proofs.settle.Goals as goal

pub loop-i-init : goal.loop-i-init
loop-i-init c =
    (omega arith, sum_to_none _, long_lines c.loop-tried.invariant.lists)

pub loop-i-preserved : goal.loop-i-preserved
loop-i-preserved c = (
  omega (arith, c.set_line-sum.ensures.small, c.loop-i.invariant.0),
  sum_to_more _ _ _ _ c.loop-i.invariant.1 c.set_line-sum.ensures.room,
  lines_next c.way_at-way.result c.loop-i.invariant.2 (omega (arith, c.requires.n_small)) c.set_line-sum.ensures (ap (set c.loop-i.step c.loop-i.i) c.step_of.ensures),
)

pub take-requires-clause-room : goal.take-requires-clause-room
take-requires-clause-room c =
    let l = c.loop-i in
    lines_room c.way_at-way.result
    (lines_done c.way_at-way.result refl l.auto.i-end c.loop-i-test.false l.invariant.2)
    (omega (arith, c.if-rest-sum.true, sum_to_end _ _ _ _ l.auto.i-end c.loop-i-test.false l.invariant.1))

pub shift_one-requires-clause-room : goal.shift_one-requires-clause-room
shift_one-requires-clause-room c =
    let a = c.args in
    let l = c.loop-i in
    let k = c.loop-k in
    let way = c.way_at-way.result in
    let up : ltb a.total a.took ≡ up_of way = way_side _ _ _ c.way_at-way.ensures in
    let lined = lines_done way refl l.auto.i-end c.loop-i-test.false l.invariant.2 in
    let taken : Taken (up_of way) l.one l.step l.cap a.n c.distance-rest.result c.take.new.taken = rw up at c.take.ensures in
    let within : AllWithin (ltb a.total a.took) c.loop-tried.states a.n (at c.take.new.taken) = rw up (taken_within way lined c.loop-tried.invariant.ready taken) in
    rw (k.invariant.beyond k.k (omega arith)) (within.within _ c.loop-k-test.true)

pub returns-then-rest-sum : goal.returns-then-rest-sum
returns-then-rest-sum c =
    let a = c.args in
    let l = c.loop-i in
    let k = c.loop-k in
    let t = c.loop-tried in
    let way = c.way_at-way.result in
    let up : ltb a.total a.took ≡ up_of way = way_side _ _ _ c.way_at-way.ensures in
    let lined = lines_done way refl l.auto.i-end c.loop-i-test.false l.invariant.2 in
    let taken : Taken (up_of way) l.one l.step l.cap a.n c.distance-rest.result c.take.new.taken = rw up at c.take.ensures in
    let moved = shifted_all _ _ _ _ _ _ k.auto.k-end c.loop-k-test.false k.invariant in
    let by = engine_plain t.invariant.ready way (way_priced (ltb a.total a.took) t.tried way c.way_at-way.ensures) lined taken (rw up at moved) in
    let roomy = sum_to_end _ _ _ _ l.auto.i-end c.loop-i-test.false l.invariant.1 in
    let s =
    settled_done t.states by
    (remainder_by a.number a.n a.total a.took t.states _ _ way c.distance-rest.ensures c.way_at-way.ensures (omega (arith, c.loop-tried-test.true, c.tries_of-tried-end.ensures)) t.invariant.short (omega (arith, c.if-rest-sum.true, roomy))) in
    rw (← t.invariant.same) (record { verdict = s.verdict; states = s.states })

pub returns : goal.returns
returns c =
    let a = c.args in
    let t = c.loop-tried in
    let e = c.settle_last.ensures in
    let q = remainder_outcome a.number a.n a.total a.took t.states _ c.distance-rest.ensures in
    rw (← t.invariant.same) (record { verdict = e.verdict ∙ ap verdict_of (sym q); states = e.states ∙ ap (states_of t.states) (sym q) })
