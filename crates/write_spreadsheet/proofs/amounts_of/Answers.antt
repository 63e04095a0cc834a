use native.Mathlib.Omega.{arith}
use Rattle.roundtrip.specs.GivenHour.{valid_given}
use Rattle.write_spreadsheet.proofs.amounts_of.Goals as goal

pub sum_generated-generation-requires : goal.sum_generated-generation-requires
sum_generated-generation-requires c = (valid_given c.args.h c.requires).sources.few

pub sum_delivered-delivered-requires : goal.sum_delivered-delivered-requires
sum_delivered-delivered-requires c =
    (valid_given c.args.h c.requires).deliveries.few

pub hour_amounts-requires : goal.hour_amounts-requires
hour_amounts-requires c = (
  omega (arith, (valid_given c.args.h c.requires).drawn, c.sum_generated-generation.ensures.0, c.sum_delivered-delivered.ensures.0),
  omega (arith, c.sum_generated-generation.ensures.1),
)
