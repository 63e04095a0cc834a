use Rattle.std.proofs.Common.{ap, ◌∙◌}
use Rattle.rules.specs.Answers.{verdict_of}
use Rattle.deck.specs.Head.{reading_rows, reading_follows}
use Rattle.deck.proofs.Asked.{was_passed}
use Rattle.deck.proofs.check_deck.Goals as goal

pub returns-in_err-losses : goal.returns-in_err-losses
returns-in_err-losses c = was_passed _ c.from_residual.ensures.1 ∙ ap verdict_of (reading_rows c.args.s.now _ c.in_err-losses.ensures.line)

pub rows-requires : goal.rows-requires
rows-requires c = (rw c.head.ensures.deck (reading_follows c.args.s.now _ c.in_ok-losses.ensures.line), tt)

pub returns : goal.returns
returns c =
    let told = rw c.head.ensures.deck at c.rows.ensures.verdict in
    told ∙ ap verdict_of (reading_rows c.args.s.now _ c.in_ok-losses.ensures.line)
