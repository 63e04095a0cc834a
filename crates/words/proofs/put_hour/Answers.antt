use Rattle.std.proofs.Common.{refl}
use Rattle.groups.specs.MwhsListed.{hour_mwhs}
use Rattle.reconstruct.specs.WholeAnswer.{keys_of, placeable}
use Rattle.roundtrip.specs.GivenHour.{valid_given}
use Rattle.words.proofs.put_hour.Goals as goal

pub keys-keys-requires : goal.keys-keys-requires
keys-keys-requires c =
    placeable _ c.requires

pub list_mwhs-mwhs-requires : goal.list_mwhs-mwhs-requires
list_mwhs-mwhs-requires c = (valid_given _ c.requires).deliveries.few

pub take_turns-requires : goal.take_turns-requires
take_turns-requires c =
    (c.requires, keys_of _ _ c.keys-keys.ensures, hour_mwhs _ _ c.list_mwhs-mwhs.ensures, record { led = refl; kept = refl })
