use mathlib.Core.List.{[]}
use mathlib.Core.Path.{refl}
use native.Mathlib.Omega.{arith}
use Rattle.rules.specs.Refusals.{number_of, place_of}
use Rattle.rules.specs.Report.{refusal}
use Rattle.print_lines.specs.Lines.{printed}
use Rattle.hour_lines.specs.HandedOver.{whole_written, into_whole}
use Rattle.print_report.proofs.hand_refusal.Goals as goal

pub returns-clause-bytes : goal.returns-clause-bytes
returns-clause-bytes c =
    let text = printed (refusal (number_of c.args.x) (place_of c.args.x)) in
    let written = whole_written text (text []) c.args.out.now refl (omega (arith, c.refusal_length.ensures)) _ _ c.put_refusal.ensures in (into_whole (text []) c.args.out.now _ _ (omega (arith, c.refusal_length.ensures)) written.0 written.1).1
