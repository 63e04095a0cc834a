use mathlib.Core.Path.{◌∙◌}
use Rattle.barleyhood.specs.Told.{hour_valid, cells_told, cells_refused}
use Rattle.barleyhood.proofs.linked.barleyhood_plain.Goals as goal

pub cells_of-requires : goal.cells_of-requires
cells_of-requires c =
    hour_valid _ c.read.result c.read.ensures _ c.in-Ok.is

pub returns-in-Ok-clause-code : goal.returns-in-Ok-clause-code
returns-in-Ok-clause-code c =
    let x = c.cells_of in (cells_told _ c.read.result c.read.ensures _ c.in-Ok.is _ x.result _ c.args.out.now _ x.ensures.outcome c.written_code.ensures x.ensures.cells).0

pub returns-in-Ok-clause-cells : goal.returns-in-Ok-clause-cells
returns-in-Ok-clause-cells c =
    let x = c.cells_of in (cells_told _ c.read.result c.read.ensures _ c.in-Ok.is _ x.result _ c.args.out.now _ x.ensures.outcome c.written_code.ensures x.ensures.cells).1

pub returns-in-Err-clause-code : goal.returns-in-Err-clause-code
returns-in-Err-clause-code c =
    let x = cells_refused _ c.read.result c.read.ensures _ c.in-Err.is _ c.args.out.now in c.code_of.ensures ∙ x.0

pub returns-in-Err-clause-cells : goal.returns-in-Err-clause-cells
returns-in-Err-clause-cells c =
    let x = cells_refused _ c.read.result c.read.ensures _ c.in-Err.is _ c.args.out.now in x.1
