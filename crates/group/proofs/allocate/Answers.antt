use mathlib.Core.Path.{◌∙◌}
use Rattle.group.specs.Directs.{directed_is}
use Rattle.group.proofs.allocate.Goals as goal

pub returns : goal.returns
returns c =
    c.with_direct.ensures ∙ directed_is c.args.s c.args.line _ c.basic_of-b.ensures
