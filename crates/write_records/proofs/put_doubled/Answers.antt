use mathlib.Core.List.{[]}
use native.Mathlib.Omega.{arith}
use lib.ListN.{length, get_or}
use Rattle.write_fields.specs.Inked.{inked_none, inked_more, inked_all, room_next, room_as}
use Rattle.write_records.specs.Records.{doubled_at, front_character, doubled_whole}
use Rattle.write_records.proofs.put_doubled.Goals as goal

pub loop-c-init : goal.loop-c-init
loop-c-init c = inked_none _ _ _

pub put_character-p-requires : goal.put_character-p-requires
put_character-p-requires c =
    let cs = c.characters-c-items.result.now in
    room_next (doubled_at cs) (λ i. front_character (get_or cs i 0)) c.loop-c.c-index (length cs) (omega arith) c.loop-c.invariant (room_as (doubled_whole c.characters-c-items.ensures.0 []) c.requires)

pub loop-c-preserved : goal.loop-c-preserved
loop-c-preserved c =
    inked_more _ _ c.loop-c.invariant c.put_character-p.ensures

pub returns : goal.returns
returns c =
    let cs = c.characters-c-items.result.now in
    inked_all (doubled_at cs) c.loop-c.c-index (length cs) (doubled_whole c.characters-c-items.ensures.0) (omega arith) c.loop-c.invariant
