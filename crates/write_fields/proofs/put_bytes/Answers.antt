use borrow.Author.Rules.{rules}
use mathlib.Core.List.{[]}
use Prim.Native.Nat.{◌+◌}
use native.Mathlib.Omega.{arith}
use Rattle.write_fields.specs.Inked.{room_as, room_first}
use Rattle.write_fields.specs.Texts.{copied_none, copied_more, copied_room, front_eight, from_eight}
use Rattle.write_fields.proofs.put_bytes.Goals as goal

pub loop-i-init : goal.loop-i-init
loop-i-init c = (search rules, copied_none _ _ _)

pub copy_eight-p-requires : goal.copy_eight-p-requires
copy_eight-p-requires c =
    (omega arith, room_first (front_eight c.args.src.now c.loop-i.i) (room_as (from_eight c.args.src.now c.loop-i.i (omega arith) []) (copied_room c.loop-i.invariant.1 c.requires)))

pub loop-i-preserved : goal.loop-i-preserved
loop-i-preserved c =
    (search rules, copied_more c.loop-i.invariant.1 (c.loop-i.i + 8) c.copy_eight-p.ensures (from_eight c.args.src.now c.loop-i.i (omega arith)))
