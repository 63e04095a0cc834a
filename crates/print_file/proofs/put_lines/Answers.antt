use native.Mathlib.Omega.{arith}
use Rattle.print_file.specs.Lines.{starts_later, stays_within, line_room, begun_further, all_told, all_written}
use Rattle.print_file.proofs.put_lines.Goals as goal

pub put_line-q-requires : goal.put_line-q-requires
put_line-q-requires c = line_room _ _ _ _ _ c.loop-x.invariant _ c.record_at.ensures _ _ c.in-Some.is

pub loop-x-smaller : goal.loop-x-smaller
loop-x-smaller c =
    omega (arith, starts_later _ _ _ _ _ c.loop-x.invariant _ c.record_at.ensures _ _ c.in-Some.is, stays_within _ _ _ _ _ c.loop-x.invariant _ c.record_at.ensures _ _ c.in-Some.is)

pub loop-x-preserved : goal.loop-x-preserved
loop-x-preserved c = begun_further _ _ _ _ _ c.loop-x.invariant _ c.record_at.ensures _ _ c.in-Some.is _ _ c.put_line-q.ensures

pub returns-clause-outcome : goal.returns-clause-outcome
returns-clause-outcome c = all_told _ _ _ _ _ c.loop-x.invariant _ c.record_at.ensures c.in_default.is

pub returns-clause-bytes : goal.returns-clause-bytes
returns-clause-bytes c = all_written _ _ _ _ _ c.loop-x.invariant _ c.record_at.ensures c.in_default.is
