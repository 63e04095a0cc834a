-- The keys of an hour's deliveries: every group that has a member has its turn.
use Rattle.std.specs.Prelude.{true, ◌≡◌, ℕ, ◌≤◌, ◌<◌, min, length, get_or, take}
use Rattle.std.proofs.Math.Path.{ap}
use Rattle.std.proofs.Common.{◌∙◌, arith, get_or-take}
use Rattle.std.proofs.Math.ListN.{length-map, length-take}
use Rattle.laws.specs.Keys.{among, among_turns, counted_among, Turns, all_turns}
use Rattle.laws.specs.Sums.{get_d_map_there}
use Rattle.rules.specs.Hour.{or_none, no_key, keys, key_at, counted, turns}
use Rattle.rules.specs.Sequences.{no_delivery, numbered}
use Rattle.rules.specs.declared.Delivery.{Delivery}
use Rattle.rules.specs.declared.Hour.{Hour}
use Rattle.rules.specs.declared.Key.{Key}

module _ (h : Hour) where
  abbrev key_for : Delivery → Key
  key_for t = record { number = or_none (numbered h.deliveries h.ndeliveries t) }

  -- the key of delivery j
  pub keys_at : (j : ℕ) → j < h.ndeliveries → j < length h.deliveries → key_at (keys h) j ≡ record { number = or_none (numbered h.deliveries h.ndeliveries (get_or h.deliveries j no_delivery)) }
  unfolding keys
  keys_at j a b =
      get_d_map_there key_for (take h.ndeliveries h.deliveries) j no_delivery no_key (omega (arith, length-take h.ndeliveries h.deliveries)) ∙
      ap key_for (get_or-take h.ndeliveries h.deliveries j no_delivery a)

  pub keys_length : length (keys h) ≡ min h.ndeliveries (length h.deliveries)
  unfolding keys
  keys_length = length-map (take h.ndeliveries h.deliveries) key_for ∙ length-take h.ndeliveries h.deliveries

  pub hour_turns : Turns (keys h) h.ndeliveries (turns (keys h))
  hour_turns = all_turns (keys h) h.ndeliveries (omega (arith, keys_length))

  pub every_group_has_its_turn : h.ndeliveries ≤ length h.deliveries → (y : Key) → 0 < counted (keys h) y h.ndeliveries → among (turns (keys h)) y ≡ true
  every_group_has_its_turn l y c = among_turns (keys h) y ∙ counted_among (keys h) y h.ndeliveries (omega (arith, keys_length)) c
