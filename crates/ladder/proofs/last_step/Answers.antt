use mathlib.Core.Path.{ap, ◌∙◌}
use Prim.Native.Nat.{ℕ, min, ◌<◌}
use native.Mathlib.Omega.{arith}
use Rattle.ladder.specs.LastStep.{chosen_there, chosen_given, Given, stepping_more, stepping_end}
use Rattle.merit.specs.LevelNeverBelowB.{state_at}
use Rattle.merit.specs.PlainMoves.{unit_room_most}
use Rattle.merit.specs.RemainderMoves.{room_open}
use Rattle.rules.specs.Group.{last}
use Rattle.ladder.proofs.last_step.Goals as goal

pub bounds-states-i : goal.bounds-states-i
bounds-states-i c =
    let there : c.dearest-i.result < c.args.n = chosen_there c.loop-rest.invariant _ c.loop-rest-test.true c.dearest-i.ensures in
    omega (arith, there, c.requires.all_ready.n_small)

pub shift_one-requires-clause-room : goal.shift_one-requires-clause-room
shift_one-requires-clause-room c =
    let given : Given c.loop-rest.states c.loop-rest.rest c.dearest-i.result c.least-k.result = chosen_given c.loop-rest.invariant _ _ c.loop-rest-test.true c.dearest-i.ensures
    (c.least-k.ensures ∙ ap (λ (x : ℕ). min x c.loop-rest.rest) c.unit_room-room.ensures.0) in omega (arith, (given).room, unit_room_most (state_at c.loop-rest.states c.dearest-i.result), room_open last (state_at c.loop-rest.states c.dearest-i.result))

pub bounds-states-i-in-loop-rest : goal.bounds-states-i-in-loop-rest
bounds-states-i-in-loop-rest c =
    let there : c.dearest-i.result < c.args.n = chosen_there c.loop-rest.invariant _ c.loop-rest-test.true c.dearest-i.ensures in
    omega (arith, there, c.requires.all_ready.n_small)

pub loop-rest-smaller : goal.loop-rest-smaller
loop-rest-smaller c =
    let given : Given c.loop-rest.states c.loop-rest.rest c.dearest-i.result c.least-k.result = chosen_given c.loop-rest.invariant _ _ c.loop-rest-test.true c.dearest-i.ensures
    (c.least-k.ensures ∙ ap (λ (x : ℕ). min x c.loop-rest.rest) c.unit_room-room.ensures.0) in
    omega (arith, (given).some, (given).within)

pub loop-rest-preserved : goal.loop-rest-preserved
loop-rest-preserved c =
    let given : Given c.loop-rest.states c.loop-rest.rest c.dearest-i.result c.least-k.result = chosen_given c.loop-rest.invariant _ _ c.loop-rest-test.true c.dearest-i.ensures
    (c.least-k.ensures ∙ ap (λ (x : ℕ). min x c.loop-rest.rest) c.unit_room-room.ensures.0) in
    rw c.shift_one.ensures (stepping_more c.loop-rest.invariant _ _ c.requires.all_ready.n_small c.loop-rest-test.true c.dearest-i.ensures (given))

pub returns : goal.returns
returns c =
    stepping_end c.loop-rest.invariant c.loop-rest-test.false
