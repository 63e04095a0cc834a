use native.Mathlib.Omega.{arith}
use borrow.Author.Rules.{rules}
use Rattle.curve.specs.declared.Rung.TheVariants.{Emergency}
use Rattle.ladder.specs.LastStep.{emergency_is}
use Rattle.ladder.specs.Ways.{way_within}
use Rattle.ladder.specs.declared.Way.TheVariants.{Down}
use Rattle.merit.specs.LevelNeverBelowB.{state_at}
use Rattle.ladder.specs.Ready.{Ready, shifted_all}
use Rattle.ladder.proofs.to_emergency.Goals as goal

pub shift_one-requires-clause-room : goal.shift_one-requires-clause-room
shift_one-requires-clause-room c =
    let a = c.loop-i in
    let r : Ready (state_at a.states a.i) = rw (a.invariant.1.beyond a.i (omega arith)) (c.requires.ready a.i) in way_within (Down Emergency) (state_at a.states a.i) _ r (omega (arith, c.room_by-room.ensures.0))

pub returns : goal.returns
returns c =
    emergency_is _ _ (search rules) (shifted_all _ _ _ _ _ _ c.loop-i.invariant.0 c.loop-i-test.false c.loop-i.invariant.1)
