use mathlib.Core.Path.{◌≡◌}
use native.Mathlib.Omega.{arith}
use Rattle.dispatch.proofs.Levels.{turns_take}
use Rattle.cutoff.specs.Lines.{at}
use Rattle.dispatch.proofs.take_turn.Goals as goal

pub returns-clause-turns_2 : goal.returns-clause-turns_2
returns-clause-turns_2 c =
    let at-merit : at c.args.left.now c.turn-a.result ≡ c.args.m = omega (arith, c.if-left-a.false, c.requires.turns.level.most _ c.turn-a.ensures.in_range) in turns_take c.requires.sources.n_small c.requires.turns c.requires.more.1 c.turn-a.ensures (at-merit) c.block-g.ensures c.next-x.ensures
