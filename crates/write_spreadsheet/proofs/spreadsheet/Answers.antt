use lib.ListN.{length}
use mathlib.Core.Path.{sym, ◌∙◌}
use Rattle.hour_lines.specs.HandedOver.{told_as}
use Rattle.write_spreadsheet.specs.Sheets.{sheet_refused, sheet_valid}
use Rattle.write_spreadsheet.proofs.spreadsheet.Goals as goal

pub returns-then-not-valid-clause-outcome : goal.returns-then-not-valid-clause-outcome
returns-then-not-valid-clause-outcome c =
    let e = sheet_refused c.args.h (length c.args.out.now) (sym c.valid.ensures ∙ c.if-not-valid.true) in rw e

pub returns-then-not-valid-clause-bytes : goal.returns-then-not-valid-clause-bytes
returns-then-not-valid-clause-bytes c =
    let e = sheet_refused c.args.h (length c.args.out.now) (sym c.valid.ensures ∙ c.if-not-valid.true) in rw e

pub returns-clause-outcome : goal.returns-clause-outcome
returns-clause-outcome c =
    let out = c.args.out.now in (told_as out (sheet_valid c.args.h (length out) (sym c.valid.ensures ∙ c.if-not-valid.false)) (c.write_valid.ensures.outcome, c.write_valid.ensures.bytes)).0

pub returns-clause-bytes : goal.returns-clause-bytes
returns-clause-bytes c =
    let out = c.args.out.now in (told_as out (sheet_valid c.args.h (length out) (sym c.valid.ensures ∙ c.if-not-valid.false)) (c.write_valid.ensures.outcome, c.write_valid.ensures.bytes)).1
