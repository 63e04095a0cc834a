use Rattle.std.proofs.Common.{◌-◌, length}
use Rattle.findings.proofs.form.label_fault.Given as goal

abbrev pub decreases-loop-b : goal.decreases-loop-b
decreases-loop-b l = length l.line - l.at
