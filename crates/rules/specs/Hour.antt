-- Document 01, "Sequence numbers", "One group" and "Numbers a call may give back": the whole hour and its cells.
use Rattle.std.specs.Prelude.{Bool, List, [], ◌∷◌, ◌++◌, map, ℕ, suc, ◌+◌, ◌-◌, ◌*◌, ltb, get_or, take, ℤ, pos}
use Rattle.std.proofs.Math.Option.{Option, none, some}
use Rattle.rules.specs.Words.{when◌then◌else◌, sum_to, list_to}
use Rattle.rules.specs.Refusals.{Outcome, accepted, and_then}
use Rattle.rules.specs.Sequences.{no_delivery, same_number, numbered}
use Rattle.rules.specs.Group.{no_running, opened, group_lines, remainder, Amount, signed, Item, direct_mwh, incremental_mwh, direct_cost, incremental_cost, amount, up_to, OpenItem, open_mwh, open_grains, open_amount}
use Rattle.rules.specs.declared.InternalSequence.{InternalSequence}
use Rattle.rules.specs.declared.Key.{Key}
use Rattle.rules.specs.declared.Hour.{Hour}
use Rattle.rules.specs.declared.Running.{Running}

abbrev pub no_number : InternalSequence
no_number = record { 0 = 0 }

-- a number, where there is one
abbrev pub or_none : Option InternalSequence → InternalSequence
or_none none = no_number
or_none (some x) = x

abbrev pub no_key : Key
no_key = record { number = no_number }

-- each delivery's key: its internal number
unfoldable pub keys : Hour → List Key
keys h = map (λ t. record { number = or_none (numbered h.deliveries h.ndeliveries t) }) (take h.ndeliveries h.deliveries)

abbrev pub key_at : List Key → ℕ → Key
key_at ks j = get_or ks j no_key

-- "Deliveries with equal internal numbers form a group": those of key x
abbrev pub same_key : Key → Key → Bool
same_key x y = same_number x.number y.number

abbrev pub member : List Key → Key → ℕ → Bool
member ks x j = same_key (key_at ks j) x

-- the MWh of the group's members among the first j deliveries, and how many they are
abbrev pub scheduled : Hour → List Key → Key → ℕ → ℕ
scheduled h ks x j = sum_to (λ i. when member ks x i then (get_or h.deliveries i no_delivery).mwh else 0) j

abbrev pub counted : List Key → Key → ℕ → ℕ
counted ks x j = sum_to (λ i. when member ks x i then 1 else 0) j

-- "each member getting the increase, with the amount's sign"
unfoldable pub share : Hour → List Key → Key → Amount → ℕ → ℤ
share h ks x a j =
    let total = scheduled h ks x h.ndeliveries in
    signed a.minus
    (up_to total a.size (counted ks x (suc j)) (scheduled h ks x (suc j)) - up_to total a.size (counted ks x j) (scheduled h ks x j))

-- what deliveries have been given so far: of delivery j from source i, an item
abbrev pub Cells : Type 0
Cells = ℕ → ℕ → Item → ℤ

-- the sources' running states, and the cells so far
pub record Progress : Type 0 where
  pub states : List Running
  pub cells : Cells

-- the group's shares in place of what its members had
unfoldable pub shared : Hour → List Key → Key → List Running → List Running → List Running → Cells → Cells
shared h ks x ss ts us cell j i item =
    when member ks x j then share h ks x (amount item (get_or ss i no_running) (get_or ts i no_running) (get_or us i no_running)) j else cell j i item

-- what the D lines took from all sources
abbrev pub took_all : ℕ → List Running → List Running → ℕ
took_all n ss ts = sum_to (λ i. (get_or ts i no_running).d - (get_or ss i no_running).d) n

-- group x after its D lines: the remainder, and the members' shares
unfoldable pub rest : Hour → List Key → Key → List Running → List Running → Cells → Outcome Progress
rest h ks x ss ts cell =
    and_then (remainder x.number h.nsources (scheduled h ks x h.ndeliveries) (took_all h.nsources ss ts) ts) λ us.
    accepted (record { states = us; cells = shared h ks x ss ts us cell })

-- one group
unfoldable pub group : Hour → List Key → Key → Progress → Outcome Progress
group h ks x p = rest h ks x p.states (group_lines (member ks x) h.directs p.states h.ndirects) p.cells

-- "Groups go by descending number."
abbrev pub goes_before : Key → Key → Bool
goes_before x y = ltb y.number.0 x.number.0

-- a key put in its turn, if it has none yet
unfoldable pub in_turn : Key → List Key → List Key
in_turn x [] = x ∷ []
in_turn x (y ∷ ys) = when same_key x y then y ∷ ys else when goes_before x y then x ∷ y ∷ ys else y ∷ in_turn x ys

-- the keys that deliveries have, each once, in their turns
unfoldable pub turns : List Key → List Key
turns [] = []
turns (x ∷ xs) = in_turn x (turns xs)

-- the groups of some keys, one after another; the first that meets 12 or 13 decides
unfoldable pub groups : Hour → List Key → List Key → Progress → Outcome Progress
groups h ks [] p = accepted p
groups h ks (x ∷ xs) p = and_then (group h ks x p) (groups h ks xs)

-- the hour's start
abbrev pub opening : Hour → Progress
opening h = record { states = map (λ s. opened s.plant) h.sources; cells = λ j i item. pos 0 }

-- all groups
unfoldable pub reconstructed : Hour → Outcome Progress
reconstructed h = groups h (keys h) (turns (keys h)) (opening h)

-- "For each delivery, then each source, in deck order: direct MWh, incremental MWh, direct cost, incremental cost."
abbrev pub items : List Item
items = direct_mwh ∷ incremental_mwh ∷ direct_cost ∷ incremental_cost ∷ []

abbrev pub pair_cells : Cells → ℕ → ℕ → List ℤ
pair_cells cell j i = map (cell j i) items

-- "After them, for each source, open MWh and open cost."
abbrev pub open_items : List OpenItem
open_items = open_mwh ∷ open_grains ∷ []

abbrev pub open_cells : List Running → ℕ → List ℤ
open_cells ss i = map (λ item. pos (open_amount item (get_or ss i no_running))) open_items

unfoldable pub cells_of : Hour → Progress → List ℤ
cells_of h p =
    list_to (λ j. list_to (pair_cells p.cells j) h.nsources) h.ndeliveries ++ list_to (open_cells p.states) h.nsources

-- how many a pair has, a source, and all together
abbrev pub pair_width : ℕ
pair_width = 4

abbrev pub open_width : ℕ
open_width = 2

abbrev pub cell_count : Hour → ℕ
cell_count h = h.ndeliveries * (h.nsources * pair_width) + h.nsources * open_width

-- the hour's answer
unfoldable pub answer : Hour → Outcome (List ℤ)
answer h = and_then (reconstructed h) λ p. accepted (cells_of h p)
