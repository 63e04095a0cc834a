use borrow.Author.Rules.{rules}
use mathlib.Core.Path.{ap, sym}
use mathlib.Core.List.{[]}
use native.Mathlib.Omega.{arith}
use lib.ListN.{length}
use Rattle.rules.specs.Words.{text}
use Rattle.write_fields.specs.Inked.{length_none, length_more, length_within}
use Rattle.print_report.specs.Rows.{open_at, front_open_at, line_same}
use Rattle.print_report.proofs.opens_length.Goals as goal

pub loop-i-init : goal.loop-i-init
loop-i-init c =
    (search rules, search rules, c.requires.2.there, sym (length_none _))

pub open_length-size-requires : goal.open_length-size-requires
open_length-size-requires c =
    let a = c.args in
    let lines = open_at a.deck.now a.sources a.cells.now a.base in
    let fronts = front_open_at a.deck.now a.sources a.cells.now a.base in
    let written = ap length (line_same (text "internal \"") c.part_at-source.ensures.bytes c.open_amounts_at-amounts.ensures []) in
    omega (arith, written, length_within lines fronts c.loop-i.i a.n (omega arith), c.requires.3)

pub overflow_add-size : goal.overflow_add-size
overflow_add-size c =
    let a = c.args in
    let lines = open_at a.deck.now a.sources a.cells.now a.base in
    let fronts = front_open_at a.deck.now a.sources a.cells.now a.base in
    let written = ap length (line_same (text "internal \"") c.part_at-source.ensures.bytes c.open_amounts_at-amounts.ensures []) in
    record { fits = omega (arith, written, length_within lines fronts c.loop-i.i a.n (omega arith), c.requires.3, c.open_length-size.ensures, c.loop-i.invariant.3) }

pub loop-i-preserved : goal.loop-i-preserved
loop-i-preserved c =
    let a = c.args in
    let lines = open_at a.deck.now a.sources a.cells.now a.base in
    let fronts = front_open_at a.deck.now a.sources a.cells.now a.base in
    let written = ap length (line_same (text "internal \"") c.part_at-source.ensures.bytes c.open_amounts_at-amounts.ensures []) in
    (search rules, search rules, search rules, omega (arith, written, length_more lines fronts c.loop-i.i, c.open_length-size.ensures, c.loop-i.invariant.3))
