use mathlib.Core.Path.{ap, ◌∙◌}
use Rattle.rules.specs.Answers.{written_of}
use Rattle.rules.specs.Calls.{leaves}
use Rattle.hour_lines.specs.HourRun.{filled}
use Rattle.hour_lines.proofs.fill_cells.Goals as goal

pub returns-clause-outcome : goal.returns-clause-outcome
returns-clause-outcome c =
    let same = filled c.args.h c.args.cells.now c.requires.2 in c.fill.ensures.outcome ∙ ap written_of same

pub returns-clause-cells : goal.returns-clause-cells
returns-clause-cells c =
    let same = filled c.args.h c.args.cells.now c.requires.2 in c.fill.ensures.cells ∙ ap (λ o. leaves o c.args.cells.now) same
