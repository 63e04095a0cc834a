use borrow.Author.Rules.{rules}
use mathlib.Core.Path.{refl}
use mathlib.Core.List.{[]}
use Prim.Native.Nat.{◌*◌, ◌<◌}
use native.Mathlib.Omega.{arith}
use lib.ListN.{replicate}
use Rattle.rules.specs.Hour.{pair_width, key_at}
use Rattle.print_lines.specs.Lines.{head_text}
use Rattle.write_fields.specs.Inked.{inked_place, inked_as, inked_none, inked_more, room_as, room_next}
use Rattle.hour_lines.specs.HourCells.{row_small}
use Rattle.hour_lines.specs.HandedOver.{first_bytes}
use Rattle.print_report.specs.Rows.{row_at, front_row_at, head_room, head_at_lem, row_at_held}
use Rattle.print_report.proofs.put_rows.Goals as goal

pub loop-j-init : goal.loop-j-init
loop-j-init c = (search rules, search rules, search rules, inked_none _ _ _)

pub put_head-k-requires : goal.put_head-k-requires
put_head-k-requires c =
    let a = c.args in
    head_room a.deck.now a.deliveries a.m c.part_at-delivery.result.now (key_at a.keys c.loop-j.j).number (replicate 64 0) c.loop-j.j (omega arith) c.requires.4 c.part_at-delivery.ensures.bytes refl

pub slice_bounds-put_row-end : goal.slice_bounds-put_row-end
slice_bounds-put_row-end c =
    let a = c.args in
    let room = head_room a.deck.now a.deliveries a.m c.part_at-delivery.result.now (key_at a.keys c.loop-j.j).number (replicate 64 0) c.loop-j.j (omega arith) c.requires.4 c.part_at-delivery.ensures.bytes refl in
    omega (arith, room.fits, inked_place c.put_head-k.ensures, c.put_head-k.ensures.kept)

pub put_row-p-requires : goal.put_row-p-requires
put_row-p-requires c =
    let a = c.args in
    let room = head_room a.deck.now a.deliveries a.m c.part_at-delivery.result.now (key_at a.keys c.loop-j.j).number (replicate 64 0) c.loop-j.j (omega arith) c.requires.4 c.part_at-delivery.ensures.bytes refl in
    let head-is = head_at_lem a.deck.now a.deliveries a.keys c.loop-j.j c.part_at-delivery.result.now _ c.part_at-delivery.ensures.bytes (first_bytes (head_text c.part_at-delivery.result.now (key_at a.keys c.loop-j.j).number) _ _ _ room c.put_head-k.ensures) in
    let written = row_at_held a.deck.now a.sources a.n a.deliveries a.keys a.cells.now c.loop-j.j _ head-is in
    let l : c.loop-j.j < a.m = omega arith in (
      c.requires.0,
      c.requires.2,
      row_small a.cells.now c.loop-j.j a.m (a.n * pair_width) l c.requires.5,
      room_as (written []) (room_next (row_at a.deck.now a.sources a.n a.deliveries a.keys a.cells.now) (front_row_at a.deck.now a.sources a.n a.deliveries a.keys a.cells.now) c.loop-j.j a.m l c.loop-j.invariant.3 c.requires.6),
    )

pub loop-j-preserved : goal.loop-j-preserved
loop-j-preserved c =
    let a = c.args in
    let room = head_room a.deck.now a.deliveries a.m c.part_at-delivery.result.now (key_at a.keys c.loop-j.j).number (replicate 64 0) c.loop-j.j (omega arith) c.requires.4 c.part_at-delivery.ensures.bytes refl in
    let head-is = head_at_lem a.deck.now a.deliveries a.keys c.loop-j.j c.part_at-delivery.result.now _ c.part_at-delivery.ensures.bytes (first_bytes (head_text c.part_at-delivery.result.now (key_at a.keys c.loop-j.j).number) _ _ _ room c.put_head-k.ensures) in
    let written = row_at_held a.deck.now a.sources a.n a.deliveries a.keys a.cells.now c.loop-j.j _ head-is in
    (search rules, search rules, search rules, inked_more _ _ c.loop-j.invariant.3 (inked_as written c.put_row-p.ensures))
