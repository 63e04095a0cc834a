use mathlib.Core.List.{[]}
use mathlib.Core.Path.{ap}
use native.Mathlib.Omega.{arith}
use lib.ListN.{length}
use Rattle.hour_lines.specs.HourCells.{given, small, pairs_small, base_fits}
use Rattle.write_spreadsheet.specs.HourFile.{labelled, deliveries_short, hour_made, file_length}
use Rattle.write_spreadsheet.specs.Sheets.{hour_fits}
use Rattle.write_spreadsheet.proofs.file_length.Goals as goal

pub source_labels-sources-requires : goal.source_labels-sources-requires
source_labels-sources-requires c = (given c.requires).sources.few

pub delivery_labels-deliveries-requires : goal.delivery_labels-deliveries-requires
delivery_labels-deliveries-requires c =
    (given c.requires).deliveries.few

pub rows_length-rows-requires : goal.rows_length-rows-requires
rows_length-rows-requires c =
    let named = labelled c.requires c.source_labels-sources.ensures c.delivery_labels-deliveries.ensures in
    let g = given c.requires in (
      g.sources.few,
      g.deliveries.few,
      deliveries_short c.requires named,
      pairs_small c.requires,
      omega (arith, file_length c.requires named, hour_fits c.args.h c.requires),
    )

pub overflow_mul-n : goal.overflow_mul-n
overflow_mul-n c =
    record { fits = omega (arith, (given c.requires).sources.few) }

pub overflow_mul-m : goal.overflow_mul-m
overflow_mul-m c =
    record { fits = omega (arith, base_fits c.requires) }

pub opens_length-opens-requires : goal.opens_length-opens-requires
opens_length-opens-requires c =
    let named = labelled c.requires c.source_labels-sources.ensures c.delivery_labels-deliveries.ensures in
    ((given c.requires).sources.few, small c.requires, omega (arith, file_length c.requires named, hour_fits c.args.h c.requires))

pub overflow_add-result : goal.overflow_add-result
overflow_add-result c =
    let named = labelled c.requires c.source_labels-sources.ensures c.delivery_labels-deliveries.ensures in
    let first = ap length (hour_made c.args.h _ c.amounts_of-amounts.ensures []) in
    record { fits = omega (arith, file_length c.requires named, hour_fits c.args.h c.requires, first, c.header_length.ensures, c.hour_length.ensures.0, c.rows_length-rows.ensures) }

pub overflow_add-result-2 : goal.overflow_add-result-2
overflow_add-result-2 c =
    let named = labelled c.requires c.source_labels-sources.ensures c.delivery_labels-deliveries.ensures in
    let first = ap length (hour_made c.args.h _ c.amounts_of-amounts.ensures []) in
    record { fits = omega (arith, file_length c.requires named, hour_fits c.args.h c.requires, first, c.header_length.ensures, c.hour_length.ensures.0, c.rows_length-rows.ensures, c.opens_length-opens.ensures) }

pub overflow_add-result-3 : goal.overflow_add-result-3
overflow_add-result-3 c =
    let named = labelled c.requires c.source_labels-sources.ensures c.delivery_labels-deliveries.ensures in
    let first = ap length (hour_made c.args.h _ c.amounts_of-amounts.ensures []) in
    record { fits = omega (arith, file_length c.requires named, hour_fits c.args.h c.requires, first, c.header_length.ensures, c.hour_length.ensures.0, c.rows_length-rows.ensures, c.opens_length-opens.ensures, c.end_length.ensures) }

pub returns : goal.returns
returns c =
    let named = labelled c.requires c.source_labels-sources.ensures c.delivery_labels-deliveries.ensures in
    let first = ap length (hour_made c.args.h _ c.amounts_of-amounts.ensures []) in
    omega (arith, file_length c.requires named, first, c.header_length.ensures, c.hour_length.ensures.0, c.rows_length-rows.ensures, c.opens_length-opens.ensures, c.end_length.ensures)
