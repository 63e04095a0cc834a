-- A source's accounts: of its MWh, and of what they cost. In each, what deliveries are given, directly and through the remainder, and what is left open
-- make up a whole.
use Rattle.std.specs.Prelude.{map, ◌≡◌, refl, ℕ, ◌<◌, ℤ, pos, get_or}
use Rattle.std.proofs.Common.{arith}
use Rattle.rules.specs.Group.{Item, direct_mwh, incremental_mwh, direct_cost, incremental_cost, OpenItem, open_mwh, open_grains}
use Rattle.rules.specs.Hour.{items, open_items, pair_width, open_width}
use Rattle.rules.specs.Units.{generation, generation_cost}
use Rattle.rules.specs.declared.Plant.{Plant}

pub data Account : Type 0 where
  mwhs grains : Account

-- the items that deliveries are given
abbrev pub direct : Account → Item
direct mwhs = direct_mwh
direct grains = direct_cost

abbrev pub incremental : Account → Item
incremental mwhs = incremental_mwh
incremental grains = incremental_cost

-- the item that is left open
abbrev pub remaining : Account → OpenItem
remaining mwhs = open_mwh
remaining grains = open_grains

-- what they make up: the source's generation, and that generation's cost
abbrev pub whole : Account → Plant → ℕ
whole mwhs p = generation p
whole grains p = generation_cost p

-- where an item stands among the cells of a pair, or of a source's open energy
abbrev pub item_place : Item → ℕ
item_place direct_mwh = 0
item_place incremental_mwh = 1
item_place direct_cost = 2
item_place incremental_cost = 3

abbrev pub open_item_place : OpenItem → ℕ
open_item_place open_mwh = 0
open_item_place open_grains = 1

pub item_within : (x : Item) → item_place x < pair_width
item_within direct_mwh = omega arith
item_within incremental_mwh = omega arith
item_within direct_cost = omega arith
item_within incremental_cost = omega arith

pub open_item_within : (x : OpenItem) → open_item_place x < open_width
open_item_within open_mwh = omega arith
open_item_within open_grains = omega arith

pub item_read : (f : Item → ℤ) (x : Item) → get_or (map f items) (item_place x) (pos 0) ≡ f x
item_read f direct_mwh = refl
item_read f incremental_mwh = refl
item_read f direct_cost = refl
item_read f incremental_cost = refl

pub open_item_read : (f : OpenItem → ℤ) (x : OpenItem) → get_or (map f open_items) (open_item_place x) (pos 0) ≡ f x
open_item_read f open_mwh = refl
open_item_read f open_grains = refl
