use Rattle.std.proofs.Common.{sym, ◌∙◌}
use Rattle.deck.specs.Head.{no_head, head_malformed, head_outside, head_started}
use Rattle.deck.proofs.Asked.{was_read, was_none, was_passed}
use Rattle.deck.proofs.Reader.head.Goals as goal

pub returns-in_err-p-clause-line : goal.returns-in_err-p-clause-line
returns-in_err-p-clause-line c =
    let k = was_none _ c.byte.ensures c.ok_or.ensures.value _ c.in_err-p.was in
    rw (was_passed _ c.from_residual.ensures.1, k.1) (sym (no_head c.args.self.now.deck.now c.args.self.now.at c.if-self-gt8192.false k.0))

pub returns-in_err-losses-clause-line : goal.returns-in_err-losses-clause-line
returns-in_err-losses-clause-line c =
    let k = was_none _ c.head.ensures c.ok_or-2.ensures.value _ c.in_err-losses.was in
    rw (was_passed _ c.from_residual-in_err-losses.ensures.1, k.1)
    (sym
    (head_malformed c.args.self.now.deck.now c.args.self.now.at c.if-self-gt8192.false c.in_ok-p.p (was_read _ c.byte.ensures c.ok_or.ensures.value _ c.in_ok-p.was) k.0))

pub returns-then-not-losses_in_range-clause-line : goal.returns-then-not-losses_in_range-clause-line
returns-then-not-losses_in_range-clause-line c =
    sym
    (head_outside c.args.self.now.deck.now c.args.self.now.at c.if-self-gt8192.false c.in_ok-p.p (was_read _ c.byte.ensures c.ok_or.ensures.value _ c.in_ok-p.was)
    c.in_ok-losses.field-0 (was_read _ c.head.ensures c.ok_or-2.ensures.value _ c.in_ok-losses.was) (sym c.losses_in_range.ensures ∙ c.if-not-losses_in_range.true))

pub returns-clause-line : goal.returns-clause-line
returns-clause-line c =
    sym
    (head_started c.args.self.now.deck.now c.args.self.now.at c.if-self-gt8192.false c.in_ok-p.p (was_read _ c.byte.ensures c.ok_or.ensures.value _ c.in_ok-p.was)
    c.in_ok-losses.field-0 (was_read _ c.head.ensures c.ok_or-2.ensures.value _ c.in_ok-losses.was) (sym c.losses_in_range.ensures ∙ c.if-not-losses_in_range.false))
