use Rattle.std.proofs.Common.{refl, sym}
use Rattle.laws.specs.Answers.{verdict_accepted}
use Rattle.line_rules.specs.TablesKept.{source_let}
use Rattle.deck.specs.Steps.{source_made}
use Rattle.deck.specs.LabelsTold.{source_told}
use Rattle.deck.proofs.Asked.{was_read, was_passed}
use Rattle.deck.proofs.source_at.Goals as goal

pub label_at-label-requires : goal.label_at-label-requires
label_at-label-requires c =
    source_told c.args.s.now c.args.at c.args.letter c.in_ok-line.line (was_read _ c.plant_at.ensures c.ok_or.ensures.value _ c.in_ok-line.was)

pub returns-in_err-take_source-clause-step : goal.returns-in_err-take_source-clause-step
returns-in_err-take_source-clause-step c =
    rw (was_passed _ c.from_residual-in_err-take_source.ensures.1)
    (source_made c.args.s.now c.args.n c.args.totals c.args.lo.now c.args.hi.now (was_read _ c.plant_at.ensures c.ok_or.ensures.value _ c.in_ok-line.was)
    c.label_at-label.ensures c.spelling_of-spelling.ensures c.in_err-take_source.ensures refl)

pub keep_source-requires : goal.keep_source-requires
keep_source-requires c = (source_let _ _ _ _ _ _ (verdict_accepted _ (sym c.in_ok-take_source.ensures)).1).room

pub returns-clause-step : goal.returns-clause-step
returns-clause-step c =
    source_made c.args.s.now c.args.n c.args.totals c.args.lo.now c.args.hi.now (was_read _ c.plant_at.ensures c.ok_or.ensures.value _ c.in_ok-line.was)
    c.label_at-label.ensures c.spelling_of-spelling.ensures c.in_ok-take_source.ensures c.add_source.ensures.0
