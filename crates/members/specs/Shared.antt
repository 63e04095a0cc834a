-- An hour whose MWh are small.
use Rattle.std.specs.Prelude.{ℕ, ◌≤◌, ◌<◌, get_or}
use Rattle.rules.specs.Sequences.{no_delivery}
use Rattle.rules.specs.declared.Hour.{Hour}

-- an hour whose deliveries' MWh add up to at most 64,000
pub record DeliveriesSmall (h : Hour) : Type 0 where
  pub few : h.ndeliveries ≤ 32
  pub mwh : (j : ℕ) → j < h.ndeliveries → (get_or h.deliveries j no_delivery).mwh ≤ 2000
