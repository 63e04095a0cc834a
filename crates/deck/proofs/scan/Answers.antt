use Rattle.std.proofs.Common.{sym, ap, ◌∙◌}
use Rattle.rules.specs.Answers.{verdict_of}
use Rattle.rules.specs.Reading.{reading}
use Rattle.laws.specs.Answers.{verdict_refused}
use Rattle.deck.specs.Entries.{keeps_started}
use Rattle.deck.specs.Head.{reading_rows, reading_follows}
use Rattle.deck.specs.Rows.{scanned_refused, scanned_kept}
use Rattle.deck.proofs.Asked.{was_passed}
use Rattle.deck.proofs.scan.Goals as goal

pub returns-in_err-losses : goal.returns-in_err-losses
returns-in_err-losses c =
    rw (was_passed _ c.from_residual.ensures.1) (scanned_refused c.args.s.now _ _ (sym (reading_rows c.args.s.now _ c.in_err-losses.ensures.line)))

pub rows-requires : goal.rows-requires
rows-requires c =
    rw c.head.ensures.deck (reading_follows c.args.s.now _ c.in_ok-losses.ensures.line, keeps_started c.args.s.now c.in_ok-losses.losses c.start.result c.start.ensures)

pub returns-in_err-rows : goal.returns-in_err-rows
returns-in_err-rows c =
    let told = rw c.head.ensures.deck at c.in_err-rows.ensures.verdict in
    let whole = reading_rows c.args.s.now _ c.in_ok-losses.ensures.line in
    rw (was_passed _ c.from_residual-in_err-rows.ensures.1) (scanned_refused c.args.s.now _ _ (verdict_refused (reading c.args.s.now) _ (sym (told ∙ ap verdict_of whole))))

pub returns : goal.returns
returns c =
    let told = rw c.head.ensures.deck at c.in_ok-rows.ensures in
    let whole = reading_rows c.args.s.now _ c.in_ok-losses.ensures.line in
    scanned_kept c.args.s.now (reading c.args.s.now) _ (told.verdict ∙ ap verdict_of whole) (λ h is. told.kept h (whole ∙ is))
