use borrow.Author.Rules.{rules}
use mathlib.Core.Path.{refl, ap, sym}
use mathlib.Core.List.{[]}
use Prim.Native.Nat.{◌*◌, ◌<◌}
use native.Mathlib.Omega.{arith}
use lib.ListN.{length, replicate}
use Rattle.rules.specs.Hour.{pair_width, key_at}
use Rattle.print_lines.specs.Lines.{head_text}
use Rattle.write_fields.specs.Inked.{inked_place, length_none, length_more, length_within}
use Rattle.hour_lines.specs.HourCells.{row_small}
use Rattle.hour_lines.specs.HandedOver.{first_bytes}
use Rattle.print_report.specs.Rows.{row_at, front_row_at, head_room, head_at_lem, row_at_held}
use Rattle.print_report.proofs.rows_length.Goals as goal

pub loop-j-init : goal.loop-j-init
loop-j-init c = (search rules, search rules, search rules, sym (length_none _))

pub put_head-k-requires : goal.put_head-k-requires
put_head-k-requires c =
    let a = c.args in
    head_room a.deck.now a.deliveries a.m c.part_at-delivery.result.now (key_at a.keys c.loop-j.j).number (replicate 64 0) c.loop-j.j (omega arith) c.requires.4 c.part_at-delivery.ensures.bytes refl

pub slice_bounds-row_length-end : goal.slice_bounds-row_length-end
slice_bounds-row_length-end c =
    let a = c.args in
    let room = head_room a.deck.now a.deliveries a.m c.part_at-delivery.result.now (key_at a.keys c.loop-j.j).number (replicate 64 0) c.loop-j.j (omega arith) c.requires.4 c.part_at-delivery.ensures.bytes refl in
    omega (arith, room.fits, inked_place c.put_head-k.ensures, c.put_head-k.ensures.kept)

pub row_length-size-requires : goal.row_length-size-requires
row_length-size-requires c =
    let a = c.args in
    let room = head_room a.deck.now a.deliveries a.m c.part_at-delivery.result.now (key_at a.keys c.loop-j.j).number (replicate 64 0) c.loop-j.j (omega arith) c.requires.4 c.part_at-delivery.ensures.bytes refl in
    let head-is = head_at_lem a.deck.now a.deliveries a.keys c.loop-j.j c.part_at-delivery.result.now _ c.part_at-delivery.ensures.bytes (first_bytes (head_text c.part_at-delivery.result.now (key_at a.keys c.loop-j.j).number) _ _ _ room c.put_head-k.ensures) in
    let written = row_at_held a.deck.now a.sources a.n a.deliveries a.keys a.cells.now c.loop-j.j _ head-is in
    let rows = row_at a.deck.now a.sources a.n a.deliveries a.keys a.cells.now in
    let fronts = front_row_at a.deck.now a.sources a.n a.deliveries a.keys a.cells.now in
    let within = length_within rows fronts c.loop-j.j a.m (omega arith) in
    let l : c.loop-j.j < a.m = omega arith in (
      c.requires.0,
      c.requires.2,
      row_small a.cells.now c.loop-j.j a.m (a.n * pair_width) l c.requires.5,
      omega (arith, ap length (written []), within, c.requires.6),
    )

pub overflow_add-size : goal.overflow_add-size
overflow_add-size c =
    let a = c.args in
    let room = head_room a.deck.now a.deliveries a.m c.part_at-delivery.result.now (key_at a.keys c.loop-j.j).number (replicate 64 0) c.loop-j.j (omega arith) c.requires.4 c.part_at-delivery.ensures.bytes refl in
    let head-is = head_at_lem a.deck.now a.deliveries a.keys c.loop-j.j c.part_at-delivery.result.now _ c.part_at-delivery.ensures.bytes (first_bytes (head_text c.part_at-delivery.result.now (key_at a.keys c.loop-j.j).number) _ _ _ room c.put_head-k.ensures) in
    let written = row_at_held a.deck.now a.sources a.n a.deliveries a.keys a.cells.now c.loop-j.j _ head-is in
    let rows = row_at a.deck.now a.sources a.n a.deliveries a.keys a.cells.now in
    let fronts = front_row_at a.deck.now a.sources a.n a.deliveries a.keys a.cells.now in
    let within = length_within rows fronts c.loop-j.j a.m (omega arith) in
    record { fits = omega (arith, ap length (written []), within, c.requires.6, c.row_length-size.ensures, c.loop-j.invariant.3) }

pub loop-j-preserved : goal.loop-j-preserved
loop-j-preserved c =
    let a = c.args in
    let room = head_room a.deck.now a.deliveries a.m c.part_at-delivery.result.now (key_at a.keys c.loop-j.j).number (replicate 64 0) c.loop-j.j (omega arith) c.requires.4 c.part_at-delivery.ensures.bytes refl in
    let head-is = head_at_lem a.deck.now a.deliveries a.keys c.loop-j.j c.part_at-delivery.result.now _ c.part_at-delivery.ensures.bytes (first_bytes (head_text c.part_at-delivery.result.now (key_at a.keys c.loop-j.j).number) _ _ _ room c.put_head-k.ensures) in
    let written = row_at_held a.deck.now a.sources a.n a.deliveries a.keys a.cells.now c.loop-j.j _ head-is in
    let rows = row_at a.deck.now a.sources a.n a.deliveries a.keys a.cells.now in
    let fronts = front_row_at a.deck.now a.sources a.n a.deliveries a.keys a.cells.now in
    let within = length_within rows fronts c.loop-j.j a.m (omega arith) in
    (search rules, search rules, search rules, omega (arith, ap length (written []), length_more rows fronts c.loop-j.j, c.row_length-size.ensures, c.loop-j.invariant.3))
