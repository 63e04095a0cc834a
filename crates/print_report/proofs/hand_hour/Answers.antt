use native.Mathlib.Omega.{arith}
use Rattle.print_report.specs.Printing.{report_short, report_whole}
use Rattle.print_report.proofs.hand_hour.Goals as goal

pub returns-then-out-hour_length-clause-outcome : goal.returns-then-out-hour_length-clause-outcome
returns-then-out-hour_length-clause-outcome c = (report_short c.args.deck.now c.args.out.now c.hour_length.result c.hour_length.ensures (omega arith)).0

pub returns-then-out-hour_length-clause-bytes : goal.returns-then-out-hour_length-clause-bytes
returns-then-out-hour_length-clause-bytes c = (report_short c.args.deck.now c.args.out.now c.hour_length.result c.hour_length.ensures (omega arith)).1

pub returns-clause-outcome : goal.returns-clause-outcome
returns-clause-outcome c = (report_whole c.args.deck.now c.args.out.now _ _ (omega (arith, c.hour_length.ensures, c.if-out-hour_length.false)) c.put_hour.ensures.size c.put_hour.ensures.bytes).0

pub returns-clause-bytes : goal.returns-clause-bytes
returns-clause-bytes c = (report_whole c.args.deck.now c.args.out.now _ _ (omega (arith, c.hour_length.ensures, c.if-out-hour_length.false)) c.put_hour.ensures.size c.put_hour.ensures.bytes).1
