use Rattle.std.proofs.Common.{sym, ◌∙◌}
use Rattle.groups.specs.StatesStayReady.{start_ready}
use Rattle.ladder.specs.Ready.{AllReady}
use Rattle.trials.proofs.settling.settle_often.Goals as goal

pub settle-requires : goal.settle-requires
settle-requires c =
    let ready : AllReady c.open_all-states.result c.args.h.nsources = start_ready _ (sym c.valid.ensures ∙ c.if-not-valid.false) _ c.open_all-states.ensures in
    ready

pub repeat-requires : goal.repeat-requires
repeat-requires c =
    let ready : AllReady c.open_all-states.result c.args.h.nsources = start_ready _ (sym c.valid.ensures ∙ c.if-not-valid.false) _ c.open_all-states.ensures in
    ready
