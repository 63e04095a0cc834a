use mathlib.Core.Path.{refl}
use Rattle.rules.specs.Report as report
use Rattle.print_lines.proofs.end_length.Goals as goal

pub returns : goal.returns
unfolding report.report_text
returns c = refl
