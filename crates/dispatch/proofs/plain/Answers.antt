use mathlib.Core.Path.{refl}
use mathlib.Core.Logic.{inr}
use Prim.Native.Nat.{◌<◌}
use native.Mathlib.Omega.{arith}
use Rattle.dispatch.proofs.Levels.{highest_choice, going_more}
use Rattle.dispatch.proofs.Taking.{taken_none, choice_there}
use Rattle.dispatch.proofs.plain.Goals as goal

pub loop-moved-init : goal.loop-moved-init
loop-moved-init c =
    record { within = omega arith; taken = rw c.requires.blank (taken_none _ _ _ _ _); left = c.find_left.ensures }

pub bounds-taken-i : goal.bounds-taken-i
bounds-taken-i c =
    let in-range : c.choose-i.result < c.args.n = choice_there _ _ _ _ _ _ _ _ _ c.loop-moved.invariant.taken c.loop-moved-test.true c.requires.room (highest_choice c.loop-moved.invariant.left c.choose-i.ensures) in
    omega (arith, in-range, c.requires.sources.n_small)

pub bounds-taken-i-in-loop-moved : goal.bounds-taken-i-in-loop-moved
bounds-taken-i-in-loop-moved c =
    let in-range : c.choose-i.result < c.args.n = choice_there _ _ _ _ _ _ _ _ _ c.loop-moved.invariant.taken c.loop-moved-test.true c.requires.room (highest_choice c.loop-moved.invariant.left c.choose-i.ensures) in
    omega (arith, in-range, c.requires.sources.n_small)

pub bounds-one-i : goal.bounds-one-i
bounds-one-i c =
    let in-range : c.choose-i.result < c.args.n = choice_there _ _ _ _ _ _ _ _ _ c.loop-moved.invariant.taken c.loop-moved-test.true c.requires.room (highest_choice c.loop-moved.invariant.left c.choose-i.ensures) in
    omega (arith, in-range, c.requires.sources.n_small)

pub bounds-step-i : goal.bounds-step-i
bounds-step-i c =
    let in-range : c.choose-i.result < c.args.n = choice_there _ _ _ _ _ _ _ _ _ c.loop-moved.invariant.taken c.loop-moved-test.true c.requires.room (highest_choice c.loop-moved.invariant.left c.choose-i.ensures) in
    omega (arith, in-range, c.requires.sources.n_small)

pub bounds-cap-i : goal.bounds-cap-i
bounds-cap-i c =
    let in-range : c.choose-i.result < c.args.n = choice_there _ _ _ _ _ _ _ _ _ c.loop-moved.invariant.taken c.loop-moved-test.true c.requires.room (highest_choice c.loop-moved.invariant.left c.choose-i.ensures) in
    omega (arith, in-range, c.requires.sources.n_small)

pub next-m-requires : goal.next-m-requires
next-m-requires c =
    let in-range : c.choose-i.result < c.args.n = choice_there _ _ _ _ _ _ _ _ _ c.loop-moved.invariant.taken c.loop-moved-test.true c.requires.room (highest_choice c.loop-moved.invariant.left c.choose-i.ensures) in
    c.requires.sources.falls _ (in-range)

pub bounds-left-i : goal.bounds-left-i
bounds-left-i c =
    let in-range : c.choose-i.result < c.args.n = choice_there _ _ _ _ _ _ _ _ _ c.loop-moved.invariant.taken c.loop-moved-test.true c.requires.room (highest_choice c.loop-moved.invariant.left c.choose-i.ensures) in
    omega (arith, in-range, c.requires.sources.n_small)

pub loop-moved-preserved : goal.loop-moved-preserved
loop-moved-preserved c =
    let in-range : c.choose-i.result < c.args.n = choice_there _ _ _ _ _ _ _ _ _ c.loop-moved.invariant.taken c.loop-moved-test.true c.requires.room (highest_choice c.loop-moved.invariant.left c.choose-i.ensures) in
    let l = in-range in
    let d = highest_choice c.loop-moved.invariant.left c.choose-i.ensures in
    going_more {rest = 1} c.requires.sources.n_small c.loop-moved.invariant l d (omega arith)
    (record { some = omega arith; within = omega arith; room = omega (arith, (d.some l).room); level = inr refl; full = λ m e. absurd (omega arith) })
    c.next-m.ensures
