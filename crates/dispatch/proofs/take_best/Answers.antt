use Prim.Native.Nat.{◌<◌}
use native.Mathlib.Omega.{arith}
use Rattle.dispatch.proofs.Levels.{highest_choice, going_level}
use Rattle.dispatch.proofs.Taking.{taken_above, choice_there}
use Rattle.cutoff.specs.Tally.{table_scales}
use Rattle.dispatch.proofs.take_best.Goals as goal

pub take_above-requires-clause-scales : goal.take_above-requires-clause-scales
take_above-requires-clause-scales c = table_scales c.requires.table

pub loop-sum-init : goal.loop-sum-init
loop-sum-init c =
    record {
      within = c.find_mark-p.ensures.within;
      taken = taken_above _ _ _ _ _ _ _ _ _ _ _ c.requires.table c.find_mark-p.ensures (rw c.requires.blank at c.take_above.ensures.above);
      left = c.take_above.ensures.left;
    }

pub bounds-left-a : goal.bounds-left-a
bounds-left-a c =
    let in-range : c.choose-a.result < c.args.n = choice_there _ _ _ _ _ _ _ _ _ c.loop-sum.invariant.taken c.loop-sum-test.true c.requires.room (highest_choice c.loop-sum.invariant.left c.choose-a.ensures) in
    omega (arith, in-range, c.requires.table.n_small)

pub bounds-taken-a : goal.bounds-taken-a
bounds-taken-a c =
    let in-range : c.choose-a.result < c.args.n = choice_there _ _ _ _ _ _ _ _ _ c.loop-sum.invariant.taken c.loop-sum-test.true c.requires.room (highest_choice c.loop-sum.invariant.left c.choose-a.ensures) in
    omega (arith, in-range, c.requires.table.n_small)

pub bounds-step-a : goal.bounds-step-a
bounds-step-a c =
    let in-range : c.choose-a.result < c.args.n = choice_there _ _ _ _ _ _ _ _ _ c.loop-sum.invariant.taken c.loop-sum-test.true c.requires.room (highest_choice c.loop-sum.invariant.left c.choose-a.ensures) in
    omega (arith, in-range, c.requires.table.n_small)

pub bounds-cap-a : goal.bounds-cap-a
bounds-cap-a c =
    let in-range : c.choose-a.result < c.args.n = choice_there _ _ _ _ _ _ _ _ _ c.loop-sum.invariant.taken c.loop-sum-test.true c.requires.room (highest_choice c.loop-sum.invariant.left c.choose-a.ensures) in
    omega (arith, in-range, c.requires.table.n_small)

pub block-g-requires : goal.block-g-requires
block-g-requires c =
    let in-range : c.choose-a.result < c.args.n = choice_there _ _ _ _ _ _ _ _ _ c.loop-sum.invariant.taken c.loop-sum-test.true c.requires.room (highest_choice c.loop-sum.invariant.left c.choose-a.ensures) in
    (((highest_choice c.loop-sum.invariant.left c.choose-a.ensures).some (in-range)).room, omega arith)

pub next-x-requires : goal.next-x-requires
next-x-requires c =
    let in-range : c.choose-a.result < c.args.n = choice_there _ _ _ _ _ _ _ _ _ c.loop-sum.invariant.taken c.loop-sum-test.true c.requires.room (highest_choice c.loop-sum.invariant.left c.choose-a.ensures) in
    (c.requires.table.source _ (in-range)).falls

pub take_level-sum-requires-clause-level : goal.take_level-sum-requires-clause-level
take_level-sum-requires-clause-level c =
    let in-range : c.choose-a.result < c.args.n = choice_there _ _ _ _ _ _ _ _ _ c.loop-sum.invariant.taken c.loop-sum-test.true c.requires.room (highest_choice c.loop-sum.invariant.left c.choose-a.ensures) in going_level c.requires.table.n_small c.loop-sum.invariant (in-range) c.choose-a.ensures
    (omega (arith, c.block-g.ensures.within, c.loop-sum-test.true)) c.block-g.ensures c.next-x.ensures
