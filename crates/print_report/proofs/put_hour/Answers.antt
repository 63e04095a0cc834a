use mathlib.Core.List.{[]}
use native.Mathlib.Omega.{arith}
use Rattle.rules.specs.Report.{header_line, report}
use Rattle.write_fields.specs.Inked.{Room, inked_as, inked_then, room_as, room_first, room_after}
use Rattle.print_lines.specs.Lines.{front_printed}
use Rattle.hour_lines.specs.HourCells.{given, small, pairs_small, base_fits}
use Rattle.print_report.specs.HourRows.{sources_held, deliveries_held, deliveries_short, front_rows, front_left, header_same, written_text, report_is}
use Rattle.hour_lines.specs.HandedOver.{whole_room, whole_written}
use Rattle.print_report.proofs.put_hour.Goals as goal

pub sum_generated-generation-requires : goal.sum_generated-generation-requires
sum_generated-generation-requires c =
    (given c.requires.0.hour).sources.few

pub sum_delivered-delivered-requires : goal.sum_delivered-delivered-requires
sum_delivered-delivered-requires c =
    (given c.requires.0.hour).deliveries.few

pub hour_amounts-amounts-requires : goal.hour_amounts-amounts-requires
hour_amounts-amounts-requires c = (
  omega (arith, (given c.requires.0.hour).drawn, c.sum_generated-generation.ensures.0, c.sum_delivered-delivered.ensures.0),
  omega (arith, c.sum_generated-generation.ensures.1),
)

pub put_header-p-requires : goal.put_header-p-requires
put_header-p-requires c =
    let a = c.args in
    let room : Room a.buf.now 0 (written_text a.deck.now a.x a.keys a.cells.now []) = whole_room (written_text a.deck.now a.x a.keys a.cells.now) (report a.deck.now) a.buf.now (report_is c.requires.0) c.requires.1 in
    room_as (header_same a.x.hour _ c.sum_generated-generation.result c.sum_delivered-delivered.result c.hour_amounts-amounts.ensures c.sum_generated-generation.ensures.0 c.sum_delivered-delivered.ensures.0 [])
    (room_first (front_printed (header_line a.x.hour)) room)

pub put_rows-q-requires : goal.put_rows-q-requires
put_rows-q-requires c =
    let a = c.args in
    let room : Room a.buf.now 0 (written_text a.deck.now a.x a.keys a.cells.now []) = whole_room (written_text a.deck.now a.x a.keys a.cells.now) (report a.deck.now) a.buf.now (report_is c.requires.0) c.requires.1 in
    let headed = inked_as (header_same c.args.x.hour _ c.sum_generated-generation.result c.sum_delivered-delivered.result c.hour_amounts-amounts.ensures c.sum_generated-generation.ensures.0 c.sum_delivered-delivered.ensures.0) c.put_header-p.ensures in
    let g = given c.requires.0.hour in (
      g.sources.few,
      g.deliveries.few,
      sources_held c.requires.0,
      deliveries_held c.requires.0,
      deliveries_short c.requires.0,
      pairs_small c.requires.0.hour,
      room_first (front_rows a.deck.now a.x a.keys a.cells.now) (room_after headed room),
    )

pub overflow_mul-n : goal.overflow_mul-n
overflow_mul-n c =
    record { fits = omega (arith, (given c.requires.0.hour).sources.few) }

pub overflow_mul-m : goal.overflow_mul-m
overflow_mul-m c =
    record { fits = omega (arith, base_fits c.requires.0.hour) }

pub put_opens-r-requires : goal.put_opens-r-requires
put_opens-r-requires c =
    let a = c.args in
    let room : Room a.buf.now 0 (written_text a.deck.now a.x a.keys a.cells.now []) = whole_room (written_text a.deck.now a.x a.keys a.cells.now) (report a.deck.now) a.buf.now (report_is c.requires.0) c.requires.1 in
    let headed = inked_as (header_same c.args.x.hour _ c.sum_generated-generation.result c.sum_delivered-delivered.result c.hour_amounts-amounts.ensures c.sum_generated-generation.ensures.0 c.sum_delivered-delivered.ensures.0) c.put_header-p.ensures in
    ((given c.requires.0.hour).sources.few, sources_held c.requires.0, small c.requires.0.hour, room_first (front_left a.deck.now a.x a.cells.now) (room_after c.put_rows-q.ensures (room_after headed room)))

pub put_end-requires : goal.put_end-requires
put_end-requires c =
    let a = c.args in
    let room : Room a.buf.now 0 (written_text a.deck.now a.x a.keys a.cells.now []) = whole_room (written_text a.deck.now a.x a.keys a.cells.now) (report a.deck.now) a.buf.now (report_is c.requires.0) c.requires.1 in
    let headed = inked_as (header_same c.args.x.hour _ c.sum_generated-generation.result c.sum_delivered-delivered.result c.hour_amounts-amounts.ensures c.sum_generated-generation.ensures.0 c.sum_delivered-delivered.ensures.0) c.put_header-p.ensures in
    room_after c.put_opens-r.ensures (room_after c.put_rows-q.ensures (room_after headed room))

pub returns-clause-size : goal.returns-clause-size
returns-clause-size c =
    let a = c.args in
    let headed = inked_as (header_same c.args.x.hour _ c.sum_generated-generation.result c.sum_delivered-delivered.result c.hour_amounts-amounts.ensures c.sum_generated-generation.ensures.0 c.sum_delivered-delivered.ensures.0) c.put_header-p.ensures in (whole_written (written_text a.deck.now a.x a.keys a.cells.now) (report a.deck.now) a.buf.now (report_is c.requires.0) c.requires.1 _ _
    (inked_then headed (inked_then c.put_rows-q.ensures (inked_then c.put_opens-r.ensures c.put_end.ensures)))).0

pub returns-clause-bytes : goal.returns-clause-bytes
returns-clause-bytes c =
    let a = c.args in
    let headed = inked_as (header_same c.args.x.hour _ c.sum_generated-generation.result c.sum_delivered-delivered.result c.hour_amounts-amounts.ensures c.sum_generated-generation.ensures.0 c.sum_delivered-delivered.ensures.0) c.put_header-p.ensures in (whole_written (written_text a.deck.now a.x a.keys a.cells.now) (report a.deck.now) a.buf.now (report_is c.requires.0) c.requires.1 _ _
    (inked_then headed (inked_then c.put_rows-q.ensures (inked_then c.put_opens-r.ensures c.put_end.ensures)))).1
