use mathlib.Core.List.{[]}
use mathlib.Core.Path.{ap}
use native.Mathlib.Omega.{arith}
use lib.ListN.{length}
use Rattle.hour_lines.specs.HourCells.{given, small, pairs_small, base_fits}
use Rattle.print_report.specs.HourRows.{sources_held, deliveries_held, deliveries_short, header_same, report_length}
use Rattle.print_report.specs.ReportFits.{report_fits}
use Rattle.print_report.proofs.hour_length.Goals as goal

pub sum_generated-generation-requires : goal.sum_generated-generation-requires
sum_generated-generation-requires c =
    (given c.requires.hour).sources.few

pub sum_delivered-delivered-requires : goal.sum_delivered-delivered-requires
sum_delivered-delivered-requires c =
    (given c.requires.hour).deliveries.few

pub hour_amounts-amounts-requires : goal.hour_amounts-amounts-requires
hour_amounts-amounts-requires c = (
  omega (arith, (given c.requires.hour).drawn, c.sum_generated-generation.ensures.0, c.sum_delivered-delivered.ensures.0),
  omega (arith, c.sum_generated-generation.ensures.1),
)

pub header_length-header-requires : goal.header_length-header-requires
header_length-header-requires c =
    omega (arith, report_length c.requires, report_fits c.args.deck.now, ap length (header_same c.args.x.hour _ c.sum_generated-generation.result c.sum_delivered-delivered.result c.hour_amounts-amounts.ensures c.sum_generated-generation.ensures.0 c.sum_delivered-delivered.ensures.0 []))

pub rows_length-rows-requires : goal.rows_length-rows-requires
rows_length-rows-requires c =
    let g = given c.requires.hour in (
      g.sources.few,
      g.deliveries.few,
      sources_held c.requires,
      deliveries_held c.requires,
      deliveries_short c.requires,
      pairs_small c.requires.hour,
      omega (arith, report_length c.requires, report_fits c.args.deck.now),
    )

pub overflow_mul-n : goal.overflow_mul-n
overflow_mul-n c =
    record { fits = omega (arith, (given c.requires.hour).sources.few) }

pub overflow_mul-m : goal.overflow_mul-m
overflow_mul-m c =
    record { fits = omega (arith, base_fits c.requires.hour) }

pub opens_length-opens-requires : goal.opens_length-opens-requires
opens_length-opens-requires c =
    ((given c.requires.hour).sources.few, sources_held c.requires, small c.requires.hour, omega (arith, report_length c.requires, report_fits c.args.deck.now))

pub overflow_add-result : goal.overflow_add-result
overflow_add-result c =
    record { fits = omega (arith, report_length c.requires, report_fits c.args.deck.now, ap length (header_same c.args.x.hour _ c.sum_generated-generation.result c.sum_delivered-delivered.result c.hour_amounts-amounts.ensures c.sum_generated-generation.ensures.0 c.sum_delivered-delivered.ensures.0 []), c.header_length-header.ensures, c.rows_length-rows.ensures) }

pub overflow_add-result-2 : goal.overflow_add-result-2
overflow_add-result-2 c =
    record { fits = omega (arith, report_length c.requires, report_fits c.args.deck.now, ap length (header_same c.args.x.hour _ c.sum_generated-generation.result c.sum_delivered-delivered.result c.hour_amounts-amounts.ensures c.sum_generated-generation.ensures.0 c.sum_delivered-delivered.ensures.0 []), c.header_length-header.ensures, c.rows_length-rows.ensures, c.opens_length-opens.ensures) }

pub overflow_add-result-3 : goal.overflow_add-result-3
overflow_add-result-3 c =
    record { fits = omega (arith, report_length c.requires, report_fits c.args.deck.now, ap length (header_same c.args.x.hour _ c.sum_generated-generation.result c.sum_delivered-delivered.result c.hour_amounts-amounts.ensures c.sum_generated-generation.ensures.0 c.sum_delivered-delivered.ensures.0 []), c.header_length-header.ensures, c.rows_length-rows.ensures, c.opens_length-opens.ensures, c.end_length.ensures) }

pub returns : goal.returns
returns c =
    omega (arith, report_length c.requires, ap length (header_same c.args.x.hour _ c.sum_generated-generation.result c.sum_delivered-delivered.result c.hour_amounts-amounts.ensures c.sum_generated-generation.ensures.0 c.sum_delivered-delivered.ensures.0 []), c.header_length-header.ensures, c.rows_length-rows.ensures, c.opens_length-opens.ensures, c.end_length.ensures)
