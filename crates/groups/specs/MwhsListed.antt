-- The MWh of a valid hour's deliveries, listed, are the hour's, and small.
use Rattle.std.specs.Prelude.{true, List, ◌≡◌, ℕ}
use Rattle.members.specs.Members.{MwhsOf}
use Rattle.members.specs.MwhsListed.{Mwhs}
use Rattle.members.specs.Shared.{DeliveriesSmall}
use Rattle.roundtrip.specs.GivenHour.{valid_given}
use Rattle.rules.specs.Writing.{valid}
use Rattle.rules.specs.declared.Hour.{Hour}

pub hour_mwhs : (h : Hour) (ms : List ℕ) → Mwhs h.deliveries h.ndeliveries ms → MwhsOf h ms
hour_mwhs h ms m = record { long = m.long; mwh = m.mwh }

pub deliveries_small : (h : Hour) → valid h ≡ true → DeliveriesSmall h
deliveries_small h v = let g = (valid_given h v).deliveries in record { few = g.few; mwh = λ j l. (g.entry j l).mwh.most }
