use Rattle.std.proofs.Common.{sym, arith}
use Rattle.line_rules.specs.TablesKept.{entry_named, direct_let}
use Rattle.deck.specs.Steps.{direct_made_lem}
use Rattle.deck.specs.LabelsTold.{direct_told}
use Rattle.deck.proofs.Asked.{was_read, was_passed}
use Rattle.deck.proofs.direct_at.Goals as goal

pub label_at-requires : goal.label_at-requires
label_at-requires c = (direct_told c.args.s.now c.args.at c.in_ok-line.line (was_read _ c.direct.ensures c.ok_or.ensures.value _ c.in_ok-line.was)).0

pub label_at-requires-2 : goal.label_at-requires-2
label_at-requires-2 c = (direct_told c.args.s.now c.args.at c.in_ok-line.line (was_read _ c.direct.ensures c.ok_or.ensures.value _ c.in_ok-line.was)).1

pub returns-in_err-entry-clause-step : goal.returns-in_err-entry-clause-step
returns-in_err-entry-clause-step c =
    rw (was_passed _ c.from_residual-in_err-entry.ensures.1)
    (direct_made_lem c.args.s.now c.args.n _ (was_read _ c.direct.ensures c.ok_or.ensures.value _ c.in_ok-line.was)
    c.label_at.ensures c.spelling_of-unit.ensures c.label_at-2.ensures c.spelling_of-delivery.ensures c.direct_in_range-ranged.ensures c.in_err-entry.ensures)

pub keep_direct-requires : goal.keep_direct-requires
keep_direct-requires c =
    let k = direct_let _ _ _ _ _ (entry_named _ _ (sym c.in_ok-entry.ensures)) in
    (omega (arith, k.source, c.requires.sources), k.total)

pub returns-clause-step : goal.returns-clause-step
returns-clause-step c =
    direct_made_lem c.args.s.now c.args.n _ (was_read _ c.direct.ensures c.ok_or.ensures.value _ c.in_ok-line.was)
    c.label_at.ensures c.spelling_of-unit.ensures c.label_at-2.ensures c.spelling_of-delivery.ensures c.direct_in_range-ranged.ensures c.in_ok-entry.ensures
