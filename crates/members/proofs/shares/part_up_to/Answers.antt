use native.Mathlib.Omega.{arith}
use Rattle.laws.specs.Parts.{up_to_part, up_to_none, up_to_whole}
use Rattle.members.proofs.shares.part_up_to.Goals as goal

pub returns-then-x-gt0 : goal.returns-then-x-gt0
returns-then-x-gt0 c = let a = c.args in up_to_part a.x a.size a.c a.m c.if-x-gt0.true

pub returns-then-c-eq0 : goal.returns-then-c-eq0
returns-then-c-eq0 c = let a = c.args in up_to_none a.x a.size a.c a.m (omega (arith, c.if-x-gt0.false)) c.if-c-eq0.true

pub returns : goal.returns
returns c = let a = c.args in up_to_whole a.x a.size a.c a.m (omega (arith, c.if-x-gt0.false)) c.if-c-eq0.false
