use lib.ListN.{length}
use mathlib.Core.Path.{sym}
use Rattle.std.proofs.lemmas.Result.{err_from_is_err_and}
use Rattle.rules.specs.Reading.{reading}
use Rattle.laws.specs.Answers.{answer_accepted, answer_refused}
use Rattle.roundtrip.specs.DeckRoundTrip.{accepted_is_valid}
use Rattle.hour_lines.specs.HandedOver.{told_as}
use Rattle.write_spreadsheet.specs.Sheets.{deck_refused, deck_accepted}
use Rattle.write_spreadsheet.proofs.deck_spreadsheet.Goals as goal

pub returns-in_err-h-clause-outcome : goal.returns-in_err-h-clause-outcome
returns-in_err-h-clause-outcome c =
    let p = err_from_is_err_and c.from_residual.result c.from_residual.ensures.1 in
    let refused = answer_refused (reading c.args.deck.now) _ (sym c.in_err-h.ensures) in
    rw (p.1, p.2, deck_refused c.args.deck.now (length c.args.out.now) _ (sym refused))

pub returns-in_err-h-clause-bytes : goal.returns-in_err-h-clause-bytes
returns-in_err-h-clause-bytes c =
    let refused = answer_refused (reading c.args.deck.now) _ (sym c.in_err-h.ensures) in
    rw (deck_refused c.args.deck.now (length c.args.out.now) _ (sym refused))

pub write_valid-requires : goal.write_valid-requires
write_valid-requires c = accepted_is_valid c.args.deck.now c.in_ok-h.h (answer_accepted (reading c.args.deck.now) _ (sym c.in_ok-h.ensures))

pub returns-clause-outcome : goal.returns-clause-outcome
returns-clause-outcome c =
    let deck = c.args.deck.now in
    let accepted = sym (answer_accepted (reading deck) _ (sym c.in_ok-h.ensures)) in
    (told_as c.args.out.now (deck_accepted deck (length c.args.out.now) c.in_ok-h.h accepted) (c.write_valid.ensures.outcome, c.write_valid.ensures.bytes)).0

pub returns-clause-bytes : goal.returns-clause-bytes
returns-clause-bytes c =
    let deck = c.args.deck.now in
    let accepted = sym (answer_accepted (reading deck) _ (sym c.in_ok-h.ensures)) in
    (told_as c.args.out.now (deck_accepted deck (length c.args.out.now) c.in_ok-h.h accepted) (c.write_valid.ensures.outcome, c.write_valid.ensures.bytes)).1
