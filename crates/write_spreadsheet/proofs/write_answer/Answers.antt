use Prim.Native.Nat.{◌≤◌}
use native.Mathlib.Omega.{arith}
use lib.ListN.{length}
use Rattle.hour_lines.specs.HandedOver.{into_whole, told_as}
use Rattle.write_spreadsheet.specs.HourFile.{hour_file}
use Rattle.write_spreadsheet.specs.Sheets.{unmet, met, hour_fits, ended_refused, ended_done}
use Rattle.write_spreadsheet.proofs.write_answer.Goals as goal

pub returns-in-Err-clause-outcome : goal.returns-in-Err-clause-outcome
returns-in-Err-clause-outcome c =
    let r = c.in-Err.r in
    let e = unmet c.args.h (length c.args.out.now) r (ended_refused c.args.h c.requires.2 r c.in-Err.is) in rw e

pub returns-in-Err-clause-bytes : goal.returns-in-Err-clause-bytes
returns-in-Err-clause-bytes c =
    let r = c.in-Err.r in
    let e = unmet c.args.h (length c.args.out.now) r (ended_refused c.args.h c.requires.2 r c.in-Err.is) in rw e

pub hand_file-requires : goal.hand_file-requires
hand_file-requires c =
    ended_done c.args.h c.requires.2 c.args.keys c.in_default.field-0 c.requires.0 c.requires.1 c.in_default.is

pub returns-then-out-lt-MOST_FILE-clause-outcome : goal.returns-then-out-lt-MOST_FILE-clause-outcome
returns-then-out-lt-MOST_FILE-clause-outcome c =
    let answered = ended_done c.args.h c.requires.2 c.args.keys c.in_default.field-0 c.requires.0 c.requires.1 c.in_default.is in (told_as c.args.out.now (met c.args.h answered (length c.args.out.now)) (c.hand_file.ensures.outcome, c.hand_file.ensures.bytes)).0

pub returns-then-out-lt-MOST_FILE-clause-bytes : goal.returns-then-out-lt-MOST_FILE-clause-bytes
returns-then-out-lt-MOST_FILE-clause-bytes c =
    let answered = ended_done c.args.h c.requires.2 c.args.keys c.in_default.field-0 c.requires.0 c.requires.1 c.in_default.is in (told_as c.args.out.now (met c.args.h answered (length c.args.out.now)) (c.hand_file.ensures.outcome, c.hand_file.ensures.bytes)).1

pub put_file-requires : goal.put_file-requires
put_file-requires c =
    let answered = ended_done c.args.h c.requires.2 c.args.keys c.in_default.field-0 c.requires.0 c.requires.1 c.in_default.is in
    (answered, omega (arith, hour_fits c.args.h answered, c.if-out-lt-MOST_FILE.false))

pub returns-clause-outcome : goal.returns-clause-outcome
returns-clause-outcome c =
    let out = c.args.out.now in
    let answered = ended_done c.args.h c.requires.2 c.args.keys c.in_default.field-0 c.requires.0 c.requires.1 c.in_default.is in
    let fits : length (hour_file c.args.h) ≤ length out = omega (arith, hour_fits c.args.h answered, c.if-out-lt-MOST_FILE.false) in (told_as out (met c.args.h answered (length out)) (into_whole (hour_file c.args.h) out _ _ fits c.put_file.ensures.size c.put_file.ensures.bytes)).0

pub returns-clause-bytes : goal.returns-clause-bytes
returns-clause-bytes c =
    let out = c.args.out.now in
    let answered = ended_done c.args.h c.requires.2 c.args.keys c.in_default.field-0 c.requires.0 c.requires.1 c.in_default.is in
    let fits : length (hour_file c.args.h) ≤ length out = omega (arith, hour_fits c.args.h answered, c.if-out-lt-MOST_FILE.false) in (told_as out (met c.args.h answered (length out)) (into_whole (hour_file c.args.h) out _ _ fits c.put_file.ensures.size c.put_file.ensures.bytes)).1
