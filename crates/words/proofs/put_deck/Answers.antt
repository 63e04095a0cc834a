use Rattle.std.proofs.Common.{sym, ap, ◌∙◌}
use Rattle.deck.specs.Answers.{hour_of}
use Rattle.laws.specs.Answers.{answer_accepted}
use Rattle.roundtrip.specs.DeckRoundTrip.{accepted_is_valid}
use Rattle.words.proofs.put_deck.Goals as goal

pub put_hour-requires : goal.put_hour-requires
put_hour-requires c =
    let read = sym c.scan.ensures.answer ∙ ap hour_of c.in-Ok.is in
    accepted_is_valid _ _ (answer_accepted _ _ read)
