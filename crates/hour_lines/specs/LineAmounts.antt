-- The amounts of a line, made of cells.
use Rattle.std.specs.Prelude.{◌≡◌, List, [], ◌∷◌, ℕ, zero, suc, ◌+◌, ◌-◌, ◌≤◌, ◌<◌, ℤ, pos, negsuc, nat_abs, ◌+ℤ◌, length, get_or}
use Rattle.std.proofs.Common.{ap, ◌∙◌, arith, lt-ltb, le-ltb, to_z-of_z, SFits}
use Rattle.std.proofs.Math.Decide.{dec_lt}
use Rattle.std.proofs.Math.IntN.{sub_ℕ}
use Rattle.std.specs.Int.{w64}
use Rattle.rules.specs.Group.{Item, direct_mwh, incremental_mwh, direct_cost, incremental_cost, OpenItem, open_mwh, open_grains}
use Rattle.rules.specs.Hour.{pair_width}
use Rattle.rules.specs.Report.{hour_amounts, pair_amounts, open_amounts}
use Rattle.balance.specs.Accounts.{item_place, open_item_place}
use Rattle.balance.specs.AnswerCells.{cell_at}
use Rattle.balance.specs.CellsFit.{SmallCell}
use Rattle.write_amounts.specs.Held.{held}

-- the first n cells are there, and small
pub record SmallFirst (cells : List ℤ) (n : ℕ) : Type 0 where
  pub there : n ≤ length cells
  pub small : (k : ℕ) → k < n → SmallCell (cell_at cells k)

-- and so are fewer
pub fewer_small : {cells : List ℤ} {n : ℕ} (k : ℕ) → k ≤ n → SmallFirst cells n → SmallFirst cells k
fewer_small k h s = record { there = omega (arith, s.there); small = λ i l. s.small i (omega arith) }

-- the cells from a place on, item by item: a pair's, and a source's open ones
abbrev pub pair_from : List ℤ → ℕ → Item → ℤ
pair_from cells k x = cell_at cells (k + item_place x)

abbrev pub open_from : List ℤ → ℕ → OpenItem → ℤ
open_from cells k x = cell_at cells (k + open_item_place x)

-- The sum of two cells.

size_sub : (a b : ℕ) → nat_abs (sub_ℕ a b) ≤ a + b
size_sub a b = elim (dec_lt a b) [
  | yes l ↦ rw (lt-ltb a b l) (omega arith)
  | no l ↦ rw (le-ltb a b (omega arith)) (omega arith)
]

-- no sum is larger than both together
size_sum : (x y : ℤ) → nat_abs (x +ℤ y) ≤ nat_abs x + nat_abs y
size_sum (pos a) (pos b) = omega arith
size_sum (pos a) (negsuc b) = omega (arith, size_sub a (suc b))
size_sum (negsuc a) (pos b) = omega (arith, size_sub b (suc a))
size_sum (negsuc a) (negsuc b) = omega arith

fits_below : (z : ℤ) → nat_abs z ≤ 200_000_000_000_000 → SFits w64 z
fits_below (pos n) h = record { sfits = omega arith }
fits_below (negsuc n) h = record { sfits = omega arith }

sum_fits : (x y : ℤ) → SmallCell x → SmallCell y → SFits w64 (x +ℤ y)
sum_fits x y h k = fits_below (x +ℤ y) (omega (arith, size_sum x y))

-- the sum as the machine makes it
module _ (x y : ℤ) (a : SFits w64 x) (b : SFits w64 y) where
  same_sum : held x +ℤ held y ≡ x +ℤ y
  same_sum = ap (λ (z : ℤ). z +ℤ held y) (to_z-of_z a) ∙ ap (λ (z : ℤ). x +ℤ z) (to_z-of_z b)

  pub held_fits : SmallCell x → SmallCell y → SFits w64 (held x +ℤ held y)
  held_fits h k = rw same_sum (sum_fits x y h k)

  pub held_sum : SmallCell x → SmallCell y → held (held x +ℤ held y) ≡ x +ℤ y
  held_sum h k = to_z-of_z (held_fits h k) ∙ same_sum

-- Amounts of cells as the machine holds them.

pub small_held : (z : ℤ) → SFits w64 z → SmallCell z → SmallCell (held z)
small_held z h s = rw (to_z-of_z h) s

module _ (cells : List ℤ) (k : ℕ) where
  pub pair_held : (cost : ℤ) → SFits w64 (cell_at cells k) → SFits w64 (cell_at cells (k + 1)) → SFits w64 (cell_at cells (k + 2)) → SFits w64 (cell_at cells (k + 3))
      → SmallFirst cells (k + pair_width) → cost ≡ held (cell_at cells (k + 2)) +ℤ held (cell_at cells (k + 3))
      → held (cell_at cells k) ∷ held (cell_at cells (k + 1)) ∷ held cost ∷ [] ≡ pair_amounts (pair_from cells k)
  pair_held cost a b c d s e =
      let zero : k + 0 ≡ k = omega arith in
      let sum : cost ≡ cell_at cells (k + 2) +ℤ cell_at cells (k + 3) = e ∙ same_sum (cell_at cells (k + 2)) (cell_at cells (k + 3)) c d in
      let fits : SFits w64 cost = rw sum (sum_fits (cell_at cells (k + 2)) (cell_at cells (k + 3)) (s.small (k + 2) (omega arith)) (s.small (k + 3) (omega arith))) in
      rw (zero, to_z-of_z a, to_z-of_z b, to_z-of_z fits, sum)

  pub open_held : SFits w64 (cell_at cells k) → SFits w64 (cell_at cells (k + 1)) → held (cell_at cells k) ∷ held (cell_at cells (k + 1)) ∷ [] ≡ open_amounts (open_from cells k)
  open_held a b =
      let zero : k + 0 ≡ k = omega arith in
      rw (zero, to_z-of_z a, to_z-of_z b)

pos_held : (x : ℕ) → x ≤ 100_000_000_000_000 → held (pos x) ≡ pos x
pos_held x h = to_z-of_z (fits_below (pos x) (omega arith))

pub hour_held : (g l d : ℕ) (x y z w : ℤ) → x ≡ pos g → y ≡ pos l → z ≡ pos d → w ≡ pos (g - (l + d)) → l + d ≤ g → g ≤ 100_000_000_000_000
    → held x ∷ held y ∷ held z ∷ held w ∷ [] ≡ hour_amounts g l d
hour_held g l d x y z w a b c e le most =
    rw (a, b, c, e, pos_held g most, pos_held l (omega arith), pos_held d (omega arith), pos_held (g - (l + d)) (omega arith))

-- How large an amount can be.

pub record SmallAmounts (zs : List ℤ) : Type 0 where
  pub most : (k : ℕ) → nat_abs (get_or zs k (pos 0)) ≤ 200_000_000_000_000

pub pair_amounts_small : (f : Item → ℤ) → ((x : Item) → SmallCell (f x)) → SmallAmounts (pair_amounts f)
pair_amounts_small f h = record { most = most }
  where
    most : (k : ℕ) → nat_abs (get_or (pair_amounts f) k (pos 0)) ≤ 200_000_000_000_000
    most zero = omega (arith, h direct_mwh)
    most (suc zero) = omega (arith, h incremental_mwh)
    most (suc (suc zero)) = omega (arith, size_sum (f direct_cost) (f incremental_cost), h direct_cost, h incremental_cost)
    most (suc (suc (suc k))) = omega arith

pub open_amounts_small : (f : OpenItem → ℤ) → ((x : OpenItem) → SmallCell (f x)) → SmallAmounts (open_amounts f)
open_amounts_small f h = record { most = most }
  where
    most : (k : ℕ) → nat_abs (get_or (open_amounts f) k (pos 0)) ≤ 200_000_000_000_000
    most zero = omega (arith, h open_mwh)
    most (suc zero) = omega (arith, h open_grains)
    most (suc (suc k)) = omega arith
