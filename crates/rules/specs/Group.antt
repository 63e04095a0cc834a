-- Document 01, "One group".
use Rattle.std.specs.Prelude.{Bool, true, false, ◌&&◌, List, map, ℕ, zero, suc, ◌+◌, ◌-◌, ◌*◌, ◌/◌, min, max, leb, ltb, eqb, get_or, set, ℤ, pos, neg_ℤ}
use Rattle.std.proofs.Math.Option.{Option, none, some}
use Rattle.rules.specs.Words.{when◌then◌else◌, sum_to}
use Rattle.rules.specs.Refusals.{Outcome, accepted, refused}
use Rattle.rules.specs.Units.{cost, generation, normal_low, oil_low, emergency_low, movable, is_unit}
use Rattle.rules.specs.declared.Unit.{Unit}
use Rattle.rules.specs.declared.Plant.{Plant}
use Rattle.rules.specs.declared.Plant.TheVariants.{Unit as U, Purchase as P, Fixed as F}
use Rattle.rules.specs.declared.Basis.{Basis}
use Rattle.rules.specs.declared.Basis.TheVariants.{Low, Generation, Mwh}
use Rattle.rules.specs.declared.Direct.{Direct}
use Rattle.rules.specs.declared.Running.{Running}
use Rattle.rules.specs.declared.InternalSequence.{InternalSequence}
use Rattle.rules.specs.declared.Refusal.TheVariants.{NoRoom, NoHeadroom}

-- what is read past the end of a list
abbrev pub no_unit : Unit
no_unit = record { g = 0; h = 0; n = 0; o = 0; e = 0; curve = record { k = 0; a = 0; b = 0; c = 0; r = 0 } }

abbrev pub no_direct : Direct
no_direct = record { basis = Low; percent = 0; source = 0; delivery = 0 }

abbrev pub no_running : Running
no_running = record { plant = U no_unit; v = 0; d = 0; b = 0; based = false; percent = 0 }

-- "Write v for a source's open energy (g at first), D for what was directly taken from it (0 at first), b for its basic amount (0 until set)."
abbrev pub opened : Plant → Running
opened p = record { plant = p; v = generation p; d = 0; b = 0; based = false; percent = 0 }

-- "Its level is v + D."
abbrev pub level : Running → ℕ
level s = s.v + s.d

-- "W(b)·m/b rounded down, 0 for b = 0"
abbrev pub prorated : Running → ℕ → ℕ
prorated s m = when eqb s.b 0 then 0 else cost s.plant s.b * m / s.b

-- W as changed: "From then W(m) for m <= b is replaced"
unfoldable pub changed : Running → ℕ → ℕ
changed s m = when s.based && leb m s.b then prorated s m else cost s.plant m

-- Direct.

-- "`L` is n, `G` is g"
abbrev pub basis : Basis → Plant → ℕ
basis Low p = normal_low p
basis Generation p = generation p
basis (Mwh x) p = x

-- "At a unit's first: b = the lesser of v and the basis"
abbrev pub basic : Running → Basis → ℕ
basic s x = when s.based then s.b else min s.v (basis x s.plant)

-- the unit with its b set
abbrev pub based_on : Running → ℕ → Running
based_on s b = record { plant = s.plant; v = s.v; d = s.d; b = b; based = true; percent = s.percent }

abbrev pub with_basic : Running → Basis → Running
with_basic s x = based_on s (basic s x)

-- "D becomes b·P/100 rounded down; the increase leaves v"
abbrev pub renewed : Running → ℕ → Running
renewed s p =
    let new = s.b * p / 100 in
    record {
      plant = s.plant;
      v = s.v - (new - s.d);
      d = new;
      b = s.b;
      based = s.based;
      percent = p;
    }

-- one D line: "P is the unit's percent total so far"
unfoldable pub directed : Running → Direct → Running
directed s line = renewed (with_basic s line.basis) (s.percent + line.percent)

-- what D has cost since the hour's start, when it was 0: "the cost charged is that at the new D less that at the old D"
abbrev pub charged : Running → ℕ
charged s = changed s s.d

-- a D line, if its delivery is a member of the group
unfoldable pub group_line : (ℕ → Bool) → Direct → List Running → List Running
group_line member line ss =
    when member line.delivery then set ss line.source (directed (get_or ss line.source no_running) line) else ss

-- "The group's D lines in deck order": the first k lines
unfoldable pub group_lines : (ℕ → Bool) → List Direct → List Running → ℕ → List Running
group_lines member lines ss zero = ss
group_lines member lines ss (suc k) = group_line member (get_or lines k no_direct) (group_lines member lines ss k)

-- Floors.

-- the ladder: normal, oil and emergency lows, and the last step
pub data Rung : Type 0 where
  normal oil emergency last : Rung

-- "Floors on v: the greater of b and the low, less D; for the last step of the ladder b - D."
abbrev pub floor : Rung → Running → ℕ
floor normal s = max s.b (normal_low s.plant) - s.d
floor oil s = max s.b (oil_low s.plant) - s.d
floor emergency s = max s.b (emergency_low s.plant) - s.d
floor last s = s.b - s.d

-- "Room is v less floor, or 0 where v is below it"; "F: never moved"
unfoldable pub room : Rung → Running → ℕ
room x s = when movable s.plant then s.v - floor x s else 0

-- The plain rule, for unloading, the last step and credit alike.

abbrev pub with_open : Running → ℕ → Running
with_open s v = record { plant = s.plant; v = v; d = s.d; b = s.b; based = s.based; percent = s.percent }

pub record Way : Type 0 where
  pub room : Running → ℕ  -- by how many MWh a source may still be moved
  pub first : (later earlier : Running) → Bool  -- whether a source goes before one that stands earlier in the deck
  pub moved : Running → ℕ → Running  -- a source moved by so many MWh

-- of an earlier choice and source i, the one to move
unfoldable pub better : Way → List Running → ℕ → Option ℕ → Option ℕ
better w ss i none = when ltb 0 (w.room (get_or ss i no_running)) then some i else none
better w ss i (some j) = when ltb 0 (w.room (get_or ss i no_running)) && w.first (get_or ss i no_running) (get_or ss j no_running) then some i else some j

-- which of the first n sources is moved next
unfoldable pub next : Way → List Running → ℕ → Option ℕ
next w ss zero = none
next w ss (suc n) = better w ss n (next w ss n)

-- one MWh of the source so found
unfoldable pub move : Way → List Running → Option ℕ → List Running
move w ss none = ss
move w ss (some i) = set ss i (w.moved (get_or ss i no_running) 1)

-- "one MWh at a time": r of them
unfoldable pub plain : Way → ℕ → List Running → ℕ → List Running
plain w n ss zero = ss
plain w n ss (suc r) = move w (plain w n ss r) (next w (plain w n ss r) n)

-- the "top MWh, W(m) - W(m-1)"
abbrev pub top : Running → ℕ
top s = changed s (level s) - changed s (level s - 1)

abbrev pub lowered : Running → ℕ → Running
lowered s x = with_open s (s.v - x)

-- "lower the level with room whose top MWh .. costs most; a tie takes the earlier source"
abbrev pub unloading : Rung → Way
unloading x = record { room = room x; first = λ later earlier. ltb (top earlier) (top later); moved = lowered }

-- "falling average W(n)/n (W as changed, compared as exact fractions), a tie taking the earlier"
abbrev pub average_level : Plant → ℕ
average_level p = normal_low p

abbrev pub dearer_average : (later earlier : Running) → Bool
dearer_average later earlier =
    ltb (changed earlier (average_level earlier.plant) * average_level later.plant)
    (changed later (average_level later.plant) * average_level earlier.plant)

-- "lower units to b - D": of a unit alone
unfoldable pub unit_room : Running → ℕ
unit_room s = when is_unit s.plant then room last s else 0

-- "one after another": their order does not change as they are lowered
abbrev pub last_step : Way
last_step = record { room = unit_room; first = dearer_average; moved = lowered }

-- "U may rise to level h, but only if its level is at least e; P may rise to v = g."
abbrev pub headroom_of : Plant → Running → ℕ
headroom_of (U u) s = when leb u.e (level s) then u.h - level s else 0
headroom_of (P g rate) s = g - s.v
headroom_of (F g) s = 0

unfoldable pub headroom : Running → ℕ
headroom s = headroom_of s.plant s

-- the "next MWh"
abbrev pub following : Running → ℕ
following s = changed s (level s + 1) - changed s (level s)

abbrev pub raised : Running → ℕ → Running
raised s x = with_open s (s.v + x)

-- "raise the cheapest next MWh; a tie takes the later source"
abbrev pub crediting : Way
crediting = record { room = headroom; first = λ later earlier. leb (following later) (following earlier); moved = raised }

-- the room of the first n sources together
abbrev pub all : (Running → ℕ) → List Running → ℕ → ℕ
all f ss n = sum_to (λ i. f (get_or ss i no_running)) n

-- "bring every U and P to its emergency floor where above it"
unfoldable pub to_emergency : List Running → List Running
to_emergency ss = map (λ s. lowered s (room emergency s)) ss

-- "Above 0: unloading. Use normal lows if the room of all U and P is at least the remainder .., else oil lows, else emergency lows. ..
-- If emergency room is too small, bring every U and P to its emergency floor .., then lower units .. until the remainder is met."; else 12
unfoldable pub unload : InternalSequence → ℕ → List Running → ℕ → Outcome (List Running)
unload number n ss r =
    when leb r (all (room normal) ss n) then accepted (plain (unloading normal) n ss r) else
    when leb r (all (room oil) ss n) then accepted (plain (unloading oil) n ss r) else
    when leb r (all (room emergency) ss n) then accepted (plain (unloading emergency) n ss r) else
    when leb r (all (room last) ss n) then accepted (plain last_step n (to_emergency ss) (r - all (room emergency) ss n)) else
    refused (NoRoom number)

-- "Below 0: credit .. One MWh at a time"; with "too little headroom" 13
unfoldable pub credit : InternalSequence → ℕ → List Running → ℕ → Outcome (List Running)
credit number n ss r = when leb r (all headroom ss n) then accepted (plain crediting n ss r) else refused (NoHeadroom number)

-- "Remainder = group's total MWh - what its D lines took."
unfoldable pub remainder : InternalSequence → ℕ → ℕ → ℕ → List Running → Outcome (List Running)
remainder number n total took ss = when leb took total then unload number n ss (total - took) else credit number n ss (took - total)

-- Members.

-- an amount: its size, and whether it is below 0
pub record Amount : Type 0 where
  pub minus : Bool
  pub size : ℕ

-- "before less after"
abbrev pub less : ℕ → ℕ → Amount
less x y = record { minus = ltb x y; size = (x - y) + (y - x) }

abbrev pub signed : Bool → ℕ → ℤ
signed true x = neg_ℤ (pos x)
signed false x = pos x

-- "Direct MWh, incremental MWh, direct cost and incremental cost"
pub data Item : Type 0 where
  direct_mwh incremental_mwh direct_cost incremental_cost : Item

-- what a group takes from a source that stood at s, at t after the D lines, and at u after the remainder
abbrev pub amount : Item → Running → Running → Running → Amount
amount direct_mwh s t u = record { minus = false; size = t.d - s.d }
amount incremental_mwh s t u = less (level t) (level u)
amount direct_cost s t u = record { minus = false; size = charged t - charged s }
amount incremental_cost s t u = less (changed t (level t)) (changed u (level u))

-- "after the members so far, |amount|·(their MWh)/(group MWh) rounded down"; "Group total 0: the first member has all."
-- of the group's MWh x, after c members with m MWh together
unfoldable pub up_to : ℕ → ℕ → ℕ → ℕ → ℕ
up_to x size c m = when eqb x 0 then (when eqb c 0 then 0 else size) else size * m / x

-- "Open energy left on a source costs W(D + v) - W(D), W as changed."
abbrev pub open_cost : Running → ℕ
open_cost s = changed s (s.d + s.v) - changed s s.d

pub data OpenItem : Type 0 where
  open_mwh open_grains : OpenItem

abbrev pub open_amount : OpenItem → Running → ℕ
open_amount open_mwh s = s.v
open_amount open_grains s = open_cost s
