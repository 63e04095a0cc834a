use Rattle.label_places.specs.Stands.{source_stands_lem, delivery_stands_lem, past_stands, refused_stands}
use Rattle.label_places.proofs.place_at.Goals as goal

pub returns-then-i-ge32 : goal.returns-then-i-ge32
returns-then-i-ge32 c = past_stands c.args.s.now c.args.i c.args.class c.if-i-ge32.true

pub returns-in_default : goal.returns-in_default
returns-in_default c = refused_stands c.args.s.now c.args.i c.args.class _ c.in_default.ensures

pub returns-in-Source : goal.returns-in-Source
returns-in-Source c = rw c.in-Source.is (source_stands_lem c.args.s.now c.args.i c.in-Ok.x c.in-Ok.ensures)

pub returns-in-Delivery : goal.returns-in-Delivery
returns-in-Delivery c = rw c.in-Delivery.is (delivery_stands_lem c.args.s.now c.args.i c.in-Ok.x c.in-Ok.ensures)
