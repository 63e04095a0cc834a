use borrow.Author.Rules.{rules}
use native.Mathlib.Omega.{arith}
use Rattle.rules.specs.Record.{delivery_at, delivery_line}
use Rattle.roundtrip.specs.GivenHour.{valid_given}
use Rattle.write_fields.specs.Inked.{inked_none, inked_more, room_next}
use Rattle.write_deck.specs.Lines.{front_line}
use Rattle.write_deck.specs.Deck.{delivery_text}
use Rattle.write_deck.proofs.put_deliveries.Goals as goal

pub loop-i-init : goal.loop-i-init
loop-i-init c =
    ((valid_given c.args.h c.requires.0).deliveries.few, search rules, inked_none _ _ _)

pub put_delivery-p-requires : goal.put_delivery-p-requires
put_delivery-p-requires c =
    let h = c.args.h in
    room_next (delivery_text h) (λ i. front_line (delivery_line (delivery_at h i))) c.loop-i.i h.ndeliveries (omega arith) c.loop-i.invariant.2 c.requires.1

pub loop-i-preserved : goal.loop-i-preserved
loop-i-preserved c =
    (search rules, search rules, inked_more _ _ c.loop-i.invariant.2 c.put_delivery-p.ensures)
