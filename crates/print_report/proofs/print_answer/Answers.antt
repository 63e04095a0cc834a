use mathlib.Core.Path.{sym, ◌∙◌}
use native.Mathlib.Omega.{arith}
use Rattle.print_report.specs.ReportFits.{report_fits}
use Rattle.hour_lines.specs.HourRun.{run_refused, run_done}
use Rattle.hour_lines.specs.HandedOver.{told_as}
use Rattle.print_report.specs.Printing.{run_answered, unmet_report, reported, report_whole}
use Rattle.print_report.proofs.print_answer.Goals as goal

pub returns-in-Err-clause-outcome : goal.returns-in-Err-clause-outcome
returns-in-Err-clause-outcome c =
    let r = c.in-Err.r in
    let unmet = run_refused c.args.x.hour r (sym c.in-Err.is ∙ c.requires.1.outcome) in (told_as c.args.out.now (reported c.args.deck.now _ _ (unmet_report c.args.deck.now r c.args.x.hour c.requires.0.read unmet)) (c.hand_refusal.ensures.outcome, c.hand_refusal.ensures.bytes)).0

pub returns-in-Err-clause-bytes : goal.returns-in-Err-clause-bytes
returns-in-Err-clause-bytes c =
    let r = c.in-Err.r in
    let unmet = run_refused c.args.x.hour r (sym c.in-Err.is ∙ c.requires.1.outcome) in (told_as c.args.out.now (reported c.args.deck.now _ _ (unmet_report c.args.deck.now r c.args.x.hour c.requires.0.read unmet)) (c.hand_refusal.ensures.outcome, c.hand_refusal.ensures.bytes)).1

pub hand_hour-requires : goal.hand_hour-requires
hand_hour-requires c =
    let ended = c.requires.1 in
    let answered = run_answered c.args.deck.now c.args.x c.args.keys c.args.cells.now c.requires.0 (run_done c.args.x.hour _ ended.before c.args.cells.now (sym c.in_default.is ∙ ended.outcome) ended.left) in
    answered

pub put_hour-requires : goal.put_hour-requires
put_hour-requires c =
    let ended = c.requires.1 in
    let answered = run_answered c.args.deck.now c.args.x c.args.keys c.args.cells.now c.requires.0 (run_done c.args.x.hour _ ended.before c.args.cells.now (sym c.in_default.is ∙ ended.outcome) ended.left) in
    (answered, omega (arith, report_fits c.args.deck.now))

pub returns-clause-outcome : goal.returns-clause-outcome
returns-clause-outcome c = (report_whole c.args.deck.now c.args.out.now _ _ (omega (arith, report_fits c.args.deck.now)) c.put_hour.ensures.size c.put_hour.ensures.bytes).0

pub returns-clause-bytes : goal.returns-clause-bytes
returns-clause-bytes c = (report_whole c.args.deck.now c.args.out.now _ _ (omega (arith, report_fits c.args.deck.now)) c.put_hour.ensures.size c.put_hour.ensures.bytes).1
