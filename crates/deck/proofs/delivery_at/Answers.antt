use Rattle.std.proofs.Common.{refl, sym}
use Rattle.laws.specs.Answers.{verdict_accepted}
use Rattle.line_rules.specs.TablesKept.{delivery_let}
use Rattle.deck.specs.Steps.{delivery_made}
use Rattle.deck.specs.LabelsTold.{delivery_told}
use Rattle.deck.proofs.Asked.{was_read, was_passed}
use Rattle.deck.proofs.delivery_at.Goals as goal

pub label_at-label-requires : goal.label_at-label-requires
label_at-label-requires c =
    delivery_told c.args.s.now c.args.at c.in_ok-line.line (was_read _ c.delivery.ensures c.ok_or.ensures.value _ c.in_ok-line.was)

pub returns-in_err-take_delivery-clause-step : goal.returns-in_err-take_delivery-clause-step
returns-in_err-take_delivery-clause-step c =
    rw (was_passed _ c.from_residual-in_err-take_delivery.ensures.1)
    (delivery_made c.args.s.now c.args.n c.args.totals c.args.lo.now c.args.hi.now (was_read _ c.delivery.ensures c.ok_or.ensures.value _ c.in_ok-line.was)
    c.label_at-label.ensures c.spelling_of-spelling.ensures c.delivery_in_range-ranged.ensures c.in_err-take_delivery.ensures refl)

pub keep_spelling-requires : goal.keep_spelling-requires
keep_spelling-requires c = (delivery_let _ _ _ _ _ (verdict_accepted _ (sym c.in_ok-take_delivery.ensures)).1).room

pub returns-clause-step : goal.returns-clause-step
returns-clause-step c =
    delivery_made c.args.s.now c.args.n c.args.totals c.args.lo.now c.args.hi.now (was_read _ c.delivery.ensures c.ok_or.ensures.value _ c.in_ok-line.was)
    c.label_at-label.ensures c.spelling_of-spelling.ensures c.delivery_in_range-ranged.ensures c.in_ok-take_delivery.ensures c.add_delivery.ensures.0
