use Rattle.std.proofs.Common.{sym, arith}
use Rattle.cutoff.specs.Tally.{table_scales, supply_none}
use Rattle.cutoff.proofs.find_mark.Goals as goal

pub loop-round-init : goal.loop-round-init
loop-round-init c =
    (omega arith, record { within = omega arith; adds = sym (supply_none c.requires) })

pub supply-e-requires : goal.supply-e-requires
supply-e-requires c =
    table_scales c.requires
