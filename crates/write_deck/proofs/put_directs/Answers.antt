use borrow.Author.Rules.{rules}
use native.Mathlib.Omega.{arith}
use Rattle.rules.specs.Record.{direct_at, direct_line}
use Rattle.roundtrip.specs.GivenHour.{valid_given}
use Rattle.write_fields.specs.Inked.{inked_none, inked_more, room_next}
use Rattle.write_deck.specs.Lines.{front_line}
use Rattle.write_deck.specs.Deck.{direct_text, named_within}
use Rattle.write_deck.proofs.put_directs.Goals as goal

pub loop-i-init : goal.loop-i-init
loop-i-init c =
    ((valid_given c.args.h c.requires.0).directs.few, search rules, inked_none _ _ _)

pub offset_bounds-h-s : goal.offset_bounds-h-s
offset_bounds-h-s c =
    omega (arith, (named_within c.args.h c.requires.0 c.loop-i.i (omega arith)).0)

pub bounds-h-s : goal.bounds-h-s
bounds-h-s c =
    omega (arith, (named_within c.args.h c.requires.0 c.loop-i.i (omega arith)).0)

pub offset_bounds-h-d : goal.offset_bounds-h-d
offset_bounds-h-d c =
    omega (arith, (named_within c.args.h c.requires.0 c.loop-i.i (omega arith)).1)

pub bounds-h-d : goal.bounds-h-d
bounds-h-d c =
    omega (arith, (named_within c.args.h c.requires.0 c.loop-i.i (omega arith)).1)

pub put_direct-p-requires : goal.put_direct-p-requires
put_direct-p-requires c =
    let h = c.args.h in
    room_next (direct_text h) (λ i. front_line (direct_line h (direct_at h i))) c.loop-i.i h.ndirects (omega arith) c.loop-i.invariant.2 c.requires.1

pub loop-i-preserved : goal.loop-i-preserved
loop-i-preserved c =
    (search rules, search rules, inked_more _ _ c.loop-i.invariant.2 c.put_direct-p.ensures)
