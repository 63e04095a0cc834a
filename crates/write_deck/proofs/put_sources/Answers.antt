use borrow.Author.Rules.{rules}
use native.Mathlib.Omega.{arith}
use Rattle.rules.specs.Record.{source_at, source_line}
use Rattle.roundtrip.specs.GivenHour.{valid_given}
use Rattle.write_fields.specs.Inked.{inked_none, inked_more, room_next}
use Rattle.write_deck.specs.Lines.{front_line}
use Rattle.write_deck.specs.Deck.{source_text}
use Rattle.write_deck.proofs.put_sources.Goals as goal

pub loop-i-init : goal.loop-i-init
loop-i-init c =
    ((valid_given c.args.h c.requires.0).sources.few, search rules, inked_none _ _ _)

pub put_source-p-requires : goal.put_source-p-requires
put_source-p-requires c =
    let h = c.args.h in
    room_next (source_text h) (λ i. front_line (source_line (source_at h i))) c.loop-i.i h.nsources (omega arith) c.loop-i.invariant.2 c.requires.1

pub loop-i-preserved : goal.loop-i-preserved
loop-i-preserved c =
    (search rules, search rules, inked_more _ _ c.loop-i.invariant.2 c.put_source-p.ensures)
