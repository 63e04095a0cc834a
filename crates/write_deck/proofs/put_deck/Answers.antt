use Rattle.rules.specs.Record.{source_at, delivery_at, direct_at, source_line, delivery_line, direct_line, head_line}
use Rattle.write_fields.specs.Inked.{inked_then, room_first, room_after}
use Rattle.write_deck.specs.Lines.{front_line, front_lines}
use Rattle.write_deck.specs.Deck.{deck_room, deck_written}
use Rattle.write_deck.proofs.put_deck.Goals as goal

pub put_head-p-requires : goal.put_head-p-requires
put_head-p-requires c =
    room_first (front_line (head_line c.args.h)) (deck_room c.args.h _ c.requires.1)

pub put_sources-q-requires : goal.put_sources-q-requires
put_sources-q-requires c =
    (c.requires.0, room_first (front_lines (λ i. source_line (source_at c.args.h i)) _) (room_after c.put_head-p.ensures (deck_room c.args.h _ c.requires.1)))

pub put_deliveries-r-requires : goal.put_deliveries-r-requires
put_deliveries-r-requires c =
    (c.requires.0, room_first (front_lines (λ i. delivery_line (delivery_at c.args.h i)) _) (room_after c.put_sources-q.ensures (room_after c.put_head-p.ensures (deck_room c.args.h _ c.requires.1))))

pub put_directs-s-requires : goal.put_directs-s-requires
put_directs-s-requires c =
    (c.requires.0, room_first (front_lines (λ i. direct_line c.args.h (direct_at c.args.h i)) _) (room_after c.put_deliveries-r.ensures (room_after c.put_sources-q.ensures (room_after c.put_head-p.ensures (deck_room c.args.h _ c.requires.1)))))

pub put_end-requires : goal.put_end-requires
put_end-requires c =
    room_after c.put_directs-s.ensures (room_after c.put_deliveries-r.ensures (room_after c.put_sources-q.ensures (room_after c.put_head-p.ensures (deck_room c.args.h _ c.requires.1))))

pub returns-clause-size : goal.returns-clause-size
returns-clause-size c = (deck_written c.args.h _ c.requires.1 _ _ (inked_then c.put_head-p.ensures (inked_then c.put_sources-q.ensures (inked_then c.put_deliveries-r.ensures (inked_then c.put_directs-s.ensures c.put_end.ensures))))).0

pub returns-clause-bytes : goal.returns-clause-bytes
returns-clause-bytes c = (deck_written c.args.h _ c.requires.1 _ _ (inked_then c.put_head-p.ensures (inked_then c.put_sources-q.ensures (inked_then c.put_deliveries-r.ensures (inked_then c.put_directs-s.ensures c.put_end.ensures))))).1
