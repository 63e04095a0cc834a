use borrow.Author.Rules.{rules}
use mathlib.Core.Path.{refl, ap, sym}
use mathlib.Core.List.{[]}
use Prim.Native.Nat.{◌*◌, ◌<◌}
use native.Mathlib.Omega.{arith}
use lib.ListN.{length, replicate}
use Rattle.rules.specs.Hour.{pair_width, key_at}
use Rattle.write_fields.specs.Inked.{inked_place, length_none, length_more, length_within}
use Rattle.write_records.specs.Records.{head_text}
use Rattle.hour_lines.specs.HourCells.{row_small}
use Rattle.hour_lines.specs.HandedOver.{first_bytes}
use Rattle.write_spreadsheet.specs.Rows.{label_at, row_at, front_row_at, head_room, row_made}
use Rattle.write_spreadsheet.proofs.rows_length.Goals as goal

pub loop-j-init : goal.loop-j-init
loop-j-init c = (search rules, search rules, search rules, sym (length_none _))

pub put_head-k-requires : goal.put_head-k-requires
put_head-k-requires c =
    let a = c.args in
    let j = c.loop-j.j in
    head_room (label_at a.deliveries j) (key_at a.keys j).number (replicate 64 0) (c.requires.2.short j (omega arith)) refl

pub slice_bounds-row_length-end : goal.slice_bounds-row_length-end
slice_bounds-row_length-end c =
    let a = c.args in
    let j = c.loop-j.j in
    let room = head_room (label_at a.deliveries j) (key_at a.keys j).number (replicate 64 0) (c.requires.2.short j (omega arith)) refl in
    omega (arith, room.fits, inked_place c.put_head-k.ensures, c.put_head-k.ensures.kept)

pub row_length-size-requires : goal.row_length-size-requires
row_length-size-requires c =
    let a = c.args in
    let j = c.loop-j.j in
    let room = head_room (label_at a.deliveries j) (key_at a.keys j).number (replicate 64 0) (c.requires.2.short j (omega arith)) refl in
    let head-is = first_bytes (head_text (label_at a.deliveries j) (key_at a.keys j).number) _ _ _ room c.put_head-k.ensures in
    let written = row_made a.sources a.n a.deliveries a.keys a.cells.now j _ head-is in
    let rows = row_at a.sources a.n a.deliveries a.keys a.cells.now in
    let fronts = front_row_at a.sources a.n a.deliveries a.keys a.cells.now in
    let l : j < a.m = omega arith in (
      c.requires.0,
      row_small a.cells.now j a.m (a.n * pair_width) l c.requires.3,
      omega (arith, ap length (written []), length_within rows fronts j a.m l, c.requires.4),
    )

pub overflow_add-size : goal.overflow_add-size
overflow_add-size c =
    let a = c.args in
    let j = c.loop-j.j in
    let room = head_room (label_at a.deliveries j) (key_at a.keys j).number (replicate 64 0) (c.requires.2.short j (omega arith)) refl in
    let head-is = first_bytes (head_text (label_at a.deliveries j) (key_at a.keys j).number) _ _ _ room c.put_head-k.ensures in
    let written = row_made a.sources a.n a.deliveries a.keys a.cells.now j _ head-is in
    let rows = row_at a.sources a.n a.deliveries a.keys a.cells.now in
    let fronts = front_row_at a.sources a.n a.deliveries a.keys a.cells.now in
    let within = length_within rows fronts j a.m (omega arith) in
    record { fits = omega (arith, ap length (written []), within, c.requires.4, c.row_length-size.ensures, c.loop-j.invariant.3) }

pub loop-j-preserved : goal.loop-j-preserved
loop-j-preserved c =
    let a = c.args in
    let j = c.loop-j.j in
    let room = head_room (label_at a.deliveries j) (key_at a.keys j).number (replicate 64 0) (c.requires.2.short j (omega arith)) refl in
    let head-is = first_bytes (head_text (label_at a.deliveries j) (key_at a.keys j).number) _ _ _ room c.put_head-k.ensures in
    let written = row_made a.sources a.n a.deliveries a.keys a.cells.now j _ head-is in
    let rows = row_at a.sources a.n a.deliveries a.keys a.cells.now in
    let fronts = front_row_at a.sources a.n a.deliveries a.keys a.cells.now in
    (search rules, search rules, search rules, omega (arith, ap length (written []), length_more rows fronts j, c.row_length-size.ensures, c.loop-j.invariant.3))
