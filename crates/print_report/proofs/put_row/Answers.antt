use borrow.Author.Rules.{rules}
use mathlib.Core.List.{[]}
use native.Mathlib.Omega.{arith}
use Rattle.write_fields.specs.Inked.{inked_as, inked_none, inked_more, room_as, room_next}
use Rattle.print_report.specs.Rows.{pair_at, front_pair_at, line_same}
use Rattle.print_report.proofs.put_row.Goals as goal

pub loop-i-init : goal.loop-i-init
loop-i-init c =
    (search rules, search rules, c.requires.2.there, inked_none _ _ _)

pub put_line-p-requires : goal.put_line-p-requires
put_line-p-requires c =
    let a = c.args in
    let lines = pair_at a.deck.now a.sources a.cells.now a.base a.head.now in
    room_as (line_same a.head.now c.part_at-source.ensures.bytes c.pair_amounts_at-amounts.ensures [])
    (room_next lines (front_pair_at a.deck.now a.sources a.cells.now a.base a.head.now) c.loop-i.i a.n (omega arith) c.loop-i.invariant.3 c.requires.3)

pub loop-i-preserved : goal.loop-i-preserved
loop-i-preserved c =
    let a = c.args in
    let written = line_same a.head.now c.part_at-source.ensures.bytes c.pair_amounts_at-amounts.ensures in
    (search rules, search rules, search rules, inked_more _ _ c.loop-i.invariant.3 (inked_as written c.put_line-p.ensures))
