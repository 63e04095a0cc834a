use borrow.Author.Rules.{rules}
use mathlib.Core.Path.{refl}
use mathlib.Core.List.{[]}
use Prim.Native.Nat.{◌*◌, ◌<◌}
use native.Mathlib.Omega.{arith}
use lib.ListN.{replicate}
use Rattle.rules.specs.Hour.{pair_width, key_at}
use Rattle.write_fields.specs.Inked.{inked_place, inked_as, inked_none, inked_more, room_as, room_next}
use Rattle.write_records.specs.Records.{head_text}
use Rattle.hour_lines.specs.HourCells.{row_small}
use Rattle.hour_lines.specs.HandedOver.{first_bytes}
use Rattle.write_spreadsheet.specs.Rows.{label_at, row_at, front_row_at, head_room, row_made}
use Rattle.write_spreadsheet.proofs.put_rows.Goals as goal

pub loop-j-init : goal.loop-j-init
loop-j-init c = (search rules, search rules, search rules, inked_none _ _ _)

pub put_head-k-requires : goal.put_head-k-requires
put_head-k-requires c =
    let a = c.args in
    let j = c.loop-j.j in
    head_room (label_at a.deliveries j) (key_at a.keys j).number (replicate 64 0) (c.requires.2.short j (omega arith)) refl

pub slice_bounds-put_row-end : goal.slice_bounds-put_row-end
slice_bounds-put_row-end c =
    let a = c.args in
    let j = c.loop-j.j in
    let room = head_room (label_at a.deliveries j) (key_at a.keys j).number (replicate 64 0) (c.requires.2.short j (omega arith)) refl in
    omega (arith, room.fits, inked_place c.put_head-k.ensures, c.put_head-k.ensures.kept)

pub put_row-p-requires : goal.put_row-p-requires
put_row-p-requires c =
    let a = c.args in
    let j = c.loop-j.j in
    let room = head_room (label_at a.deliveries j) (key_at a.keys j).number (replicate 64 0) (c.requires.2.short j (omega arith)) refl in
    let head-is = first_bytes (head_text (label_at a.deliveries j) (key_at a.keys j).number) _ _ _ room c.put_head-k.ensures in
    let written = row_made a.sources a.n a.deliveries a.keys a.cells.now j _ head-is in
    let rows = row_at a.sources a.n a.deliveries a.keys a.cells.now in
    let fronts = front_row_at a.sources a.n a.deliveries a.keys a.cells.now in
    let l : j < a.m = omega arith in (
      c.requires.0,
      row_small a.cells.now j a.m (a.n * pair_width) l c.requires.3,
      room_as (written []) (room_next rows fronts j a.m l c.loop-j.invariant.3 c.requires.4),
    )

pub loop-j-preserved : goal.loop-j-preserved
loop-j-preserved c =
    let a = c.args in
    let j = c.loop-j.j in
    let room = head_room (label_at a.deliveries j) (key_at a.keys j).number (replicate 64 0) (c.requires.2.short j (omega arith)) refl in
    let head-is = first_bytes (head_text (label_at a.deliveries j) (key_at a.keys j).number) _ _ _ room c.put_head-k.ensures in
    let written = row_made a.sources a.n a.deliveries a.keys a.cells.now j _ head-is in
    (search rules, search rules, search rules, inked_more _ _ c.loop-j.invariant.3 (inked_as written c.put_row-p.ensures))
