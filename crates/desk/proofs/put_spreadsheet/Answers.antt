-- A file is sent as a report is; where there is none, the report is what is due.
use Rattle.std.proofs.Common.{Ok, OnOk, sym, subst, ◌∙◌, rules}
use Rattle.std.specs.Io.KnownBytes.{Appends}
use Rattle.desk.specs.Sent.{appended, file_put, file_refused}
use Rattle.desk.proofs.put_spreadsheet.Goals as goal

pub returns-in_default-clause-sent : goal.returns-in_default-clause-sent
returns-in_default-clause-sent g c =
    let due = file_refused (g.A.Asker.head c.args.asker.now) c.args.deck.now _ _ (sym c.in_default.is ∙ c.deck_spreadsheet.ensures.outcome) (search rules) in
    subst (λ text. OnOk c.put_in.result (Appends (g.A.Asker.sent c.args.asker.now) (g.A.Asker.sent c.put_in.new.asker) text)) due c.put_in.ensures.sent

pub returns-clause-sent : goal.returns-clause-sent
returns-clause-sent g c =
    let known = file_put (g.A.Asker.head c.args.asker.now) c.args.deck.now _ _ _ _ (sym c.in-Ok.is ∙ c.deck_spreadsheet.ensures.outcome) c.deck_spreadsheet.ensures.bytes in
    subst (Appends _ _) known.0 (appended (Ok tt) _ _ _ c.in_ok-put.ensures)

pub returns-clause-ending : goal.returns-clause-ending
returns-clause-ending g c =
    let known = file_put (g.A.Asker.head c.args.asker.now) c.args.deck.now _ _ _ _ (sym c.in-Ok.is ∙ c.deck_spreadsheet.ensures.outcome) c.deck_spreadsheet.ensures.bytes in
    sym known.1
