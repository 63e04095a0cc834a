-- What is sent is the front of the buffer that the report was put into, and its first byte tells how the run ends.
use Rattle.std.proofs.Common.{◌≡◌, Ok, ap, sym, subst, ◌∙◌, rules}
use Rattle.std.specs.Io.KnownBytes.{Appends}
use Rattle.rules.specs.Words.{when◌then◌else◌}
use Rattle.frames.specs.declared.Ending.TheVariants.{Written, Refused}
use Rattle.desk.specs.Sent.{appended, report_sent, report_put}
use Rattle.desk.proofs.put_in.Goals as goal

pub returns-then-not-tells_refusal-clause-sent : goal.returns-then-not-tells_refusal-clause-sent
returns-then-not-tells_refusal-clause-sent g c =
    let is : Ok c.in_ok-n.n ≡ c.report.result = search rules in
    let known = report_put (g.A.Asker.head c.args.asker.now) c.args.deck.now _ _ _ _ (is ∙ c.report.ensures.outcome) c.report.ensures.bytes in
    subst (Appends _ _) known.0 (appended (Ok tt) _ _ _ c.in_ok-put.ensures)

pub returns-then-not-tells_refusal-clause-ending : goal.returns-then-not-tells_refusal-clause-ending
returns-then-not-tells_refusal-clause-ending g c =
    let is : Ok c.in_ok-n.n ≡ c.report.result = search rules in
    let known = report_put (g.A.Asker.head c.args.asker.now) c.args.deck.now _ _ _ _ (is ∙ c.report.ensures.outcome) c.report.ensures.bytes in
    sym (known.1 ∙ ap (λ b. when b then Refused else Written) (sym c.tells_refusal.ensures ∙ c.if-not-tells_refusal.true))

pub returns-clause-sent : goal.returns-clause-sent
returns-clause-sent g c =
    let is : Ok c.in_ok-n.n ≡ c.report.result = search rules in
    let known = report_put (g.A.Asker.head c.args.asker.now) c.args.deck.now _ _ _ _ (is ∙ c.report.ensures.outcome) c.report.ensures.bytes in
    subst (λ sent. Appends (g.A.Asker.sent c.args.asker.now) sent (report_sent (g.A.Asker.head c.args.asker.now) c.args.deck.now)) (sym c.explain.ensures) (subst (Appends _ _) known.0 (appended (Ok tt) _ _ _ c.in_ok-put.ensures))

pub returns-clause-ending : goal.returns-clause-ending
returns-clause-ending g c =
    let is : Ok c.in_ok-n.n ≡ c.report.result = search rules in
    let known = report_put (g.A.Asker.head c.args.asker.now) c.args.deck.now _ _ _ _ (is ∙ c.report.ensures.outcome) c.report.ensures.bytes in
    sym (known.1 ∙ ap (λ b. when b then Refused else Written) (sym c.tells_refusal.ensures ∙ c.if-not-tells_refusal.false))
