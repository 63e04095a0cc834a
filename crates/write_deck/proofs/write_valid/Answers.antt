use native.Mathlib.Omega.{arith}
use Rattle.rules.specs.Writing.{deck_text}
use Rattle.roundtrip.specs.DeckFits.{valid_at_most}
use Rattle.write_deck.specs.Verdict.{first_bytes, wrote_short, wrote_fits}
use Rattle.write_deck.proofs.write_valid.Goals as goal

pub put_deck-n-requires : goal.put_deck-n-requires
put_deck-n-requires c =
    (c.requires, omega (arith, valid_at_most c.args.h c.requires))

pub returns-then-out-n-clause-outcome : goal.returns-then-out-n-clause-outcome
returns-then-out-n-clause-outcome c = (wrote_short c.args.h c.args.out.now c.requires c.put_deck-n.result c.put_deck-n.ensures.size (omega arith)).0

pub returns-then-out-n-clause-bytes : goal.returns-then-out-n-clause-bytes
returns-then-out-n-clause-bytes c = (wrote_short c.args.h c.args.out.now c.requires c.put_deck-n.result c.put_deck-n.ensures.size (omega arith)).1

pub returns-clause-outcome : goal.returns-clause-outcome
returns-clause-outcome c =
    let d = c.put_deck-n in
    let w = deck_text c.args.h in (wrote_fits c.args.h c.args.out.now c.requires d.result d.ensures.size _ c.put_bytes.new.buf c.put_bytes.result (omega arith)
    (first_bytes w _ d.new.buf d.result d.ensures.size d.ensures.bytes) c.put_bytes.ensures).0

pub returns-clause-bytes : goal.returns-clause-bytes
returns-clause-bytes c =
    let d = c.put_deck-n in
    let w = deck_text c.args.h in (wrote_fits c.args.h c.args.out.now c.requires d.result d.ensures.size _ c.put_bytes.new.buf c.put_bytes.result (omega arith)
    (first_bytes w _ d.new.buf d.result d.ensures.size d.ensures.bytes) c.put_bytes.ensures).1
