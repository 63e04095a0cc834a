use borrow.Author.Rules.{rules}
use mathlib.Core.Path.{ap, sym}
use mathlib.Core.List.{[]}
use native.Mathlib.Omega.{arith}
use lib.ListN.{length}
use Rattle.write_fields.specs.Inked.{length_none, length_more, length_within}
use Rattle.write_spreadsheet.specs.Rows.{label_at, pair_at, front_pair_at, pair_made}
use Rattle.write_spreadsheet.proofs.row_length.Goals as goal

pub loop-i-init : goal.loop-i-init
loop-i-init c =
    (search rules, search rules, c.requires.1.there, sym (length_none _))

pub overflow_add-size : goal.overflow_add-size
overflow_add-size c =
    let a = c.args in
    let i = c.loop-i.i in
    let records = pair_at a.sources a.cells.now a.base a.head.now in
    let fronts = front_pair_at a.sources a.cells.now a.base a.head.now in
    let written = ap length (pair_made a.head.now (label_at a.sources i) c.pair_amounts_at-amounts.ensures []) in
    record { fits = omega (arith, written, length_within records fronts i a.n (omega arith), c.requires.2, c.delivery_length-size.ensures.0, c.loop-i.invariant.3) }

pub loop-i-preserved : goal.loop-i-preserved
loop-i-preserved c =
    let a = c.args in
    let i = c.loop-i.i in
    let records = pair_at a.sources a.cells.now a.base a.head.now in
    let fronts = front_pair_at a.sources a.cells.now a.base a.head.now in
    let written = ap length (pair_made a.head.now (label_at a.sources i) c.pair_amounts_at-amounts.ensures []) in
    (search rules, search rules, search rules, omega (arith, written, length_more records fronts i, c.delivery_length-size.ensures.0, c.loop-i.invariant.3))
