use mathlib.Core.List.{[]}
use mathlib.Core.Path.{ap}
use native.Mathlib.Omega.{arith}
use lib.ListN.{length}
use Rattle.rules.specs.Report.{header_line}
use Rattle.write_fields.specs.Inked.{inked_as, inked_then, room_as, room_first, room_after}
use Rattle.write_records.specs.Records.{front_header, front_record}
use Rattle.hour_lines.specs.HourCells.{given, small, pairs_small, base_fits}
use Rattle.write_spreadsheet.specs.HourFile.{labelled, deliveries_short, front_rows, front_left, hour_made, file_room, file_written}
use Rattle.write_spreadsheet.proofs.put_file.Goals as goal

pub source_labels-sources-requires : goal.source_labels-sources-requires
source_labels-sources-requires c =
    (given c.requires.0).sources.few

pub delivery_labels-deliveries-requires : goal.delivery_labels-deliveries-requires
delivery_labels-deliveries-requires c =
    (given c.requires.0).deliveries.few

pub put_header-p-requires : goal.put_header-p-requires
put_header-p-requires c =
    let named = labelled c.requires.0 c.source_labels-sources.ensures c.delivery_labels-deliveries.ensures in
    room_first front_header (file_room c.requires.0 named c.args.buf.now c.requires.1)

pub put_hour-q-requires : goal.put_hour-q-requires
put_hour-q-requires c =
    let named = labelled c.requires.0 c.source_labels-sources.ensures c.delivery_labels-deliveries.ensures in
    let room = file_room c.requires.0 named c.args.buf.now c.requires.1 in (
      omega (arith, ap length c.amounts_of-amounts.ensures),
      room_as (hour_made c.args.h _ c.amounts_of-amounts.ensures []) (room_first (front_record (header_line c.args.h)) (room_after c.put_header-p.ensures room)),
    )

pub put_rows-r-requires : goal.put_rows-r-requires
put_rows-r-requires c =
    let a = c.args in
    let named = labelled c.requires.0 c.source_labels-sources.ensures c.delivery_labels-deliveries.ensures in
    let room = file_room c.requires.0 named a.buf.now c.requires.1 in
    let headed = inked_as (hour_made a.h _ c.amounts_of-amounts.ensures) c.put_hour-q.ensures in
    let g = given c.requires.0 in (
      g.sources.few,
      g.deliveries.few,
      deliveries_short c.requires.0 named,
      pairs_small c.requires.0,
      room_first (front_rows a.h c.source_labels-sources.result c.delivery_labels-deliveries.result a.keys a.cells.now) (room_after headed (room_after c.put_header-p.ensures room)),
    )

pub overflow_mul-n : goal.overflow_mul-n
overflow_mul-n c =
    record { fits = omega (arith, (given c.requires.0).sources.few) }

pub overflow_mul-m : goal.overflow_mul-m
overflow_mul-m c =
    record { fits = omega (arith, base_fits c.requires.0) }

pub put_opens-s-requires : goal.put_opens-s-requires
put_opens-s-requires c =
    let a = c.args in
    let named = labelled c.requires.0 c.source_labels-sources.ensures c.delivery_labels-deliveries.ensures in
    let room = file_room c.requires.0 named a.buf.now c.requires.1 in
    let headed = inked_as (hour_made a.h _ c.amounts_of-amounts.ensures) c.put_hour-q.ensures in (
      (given c.requires.0).sources.few,
      small c.requires.0,
      room_first (front_left a.h c.source_labels-sources.result a.cells.now) (room_after c.put_rows-r.ensures (room_after headed (room_after c.put_header-p.ensures room))),
    )

pub put_end-requires : goal.put_end-requires
put_end-requires c =
    let a = c.args in
    let named = labelled c.requires.0 c.source_labels-sources.ensures c.delivery_labels-deliveries.ensures in
    let room = file_room c.requires.0 named a.buf.now c.requires.1 in
    let headed = inked_as (hour_made a.h _ c.amounts_of-amounts.ensures) c.put_hour-q.ensures in
    room_after c.put_opens-s.ensures (room_after c.put_rows-r.ensures (room_after headed (room_after c.put_header-p.ensures room)))

pub returns-clause-size : goal.returns-clause-size
returns-clause-size c =
    let a = c.args in
    let named = labelled c.requires.0 c.source_labels-sources.ensures c.delivery_labels-deliveries.ensures in
    let headed = inked_as (hour_made a.h _ c.amounts_of-amounts.ensures) c.put_hour-q.ensures in (file_written c.requires.0 named a.buf.now c.requires.1 _ _
    (inked_then c.put_header-p.ensures (inked_then headed (inked_then c.put_rows-r.ensures (inked_then c.put_opens-s.ensures c.put_end.ensures))))).0

pub returns-clause-bytes : goal.returns-clause-bytes
returns-clause-bytes c =
    let a = c.args in
    let named = labelled c.requires.0 c.source_labels-sources.ensures c.delivery_labels-deliveries.ensures in
    let headed = inked_as (hour_made a.h _ c.amounts_of-amounts.ensures) c.put_hour-q.ensures in (file_written c.requires.0 named a.buf.now c.requires.1 _ _
    (inked_then c.put_header-p.ensures (inked_then headed (inked_then c.put_rows-r.ensures (inked_then c.put_opens-s.ensures c.put_end.ensures))))).1
