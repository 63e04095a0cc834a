-- Where the plants' numbers are in document 01's ranges, every cell of an answer is at most 10^14 in size, and so fits 64 signed bits.
use Rattle.std.specs.Prelude.{Bool, true, false, List, ◌∷◌, ◌≡◌, ℕ, zero, suc, ◌+◌, ◌≤◌, ◌<◌, ℤ, nat_abs}
use Rattle.std.proofs.Common.{arith}
use Rattle.balance.specs.HourBalances.{plant_at, opening_at, after_lines, Grouped, Balanced, lines_directed}
use Rattle.balance.specs.SharesMakeUpTheAmount.{share_most}
use Rattle.laws.specs.Keys.{among}
use Rattle.merit.specs.LevelNeverBelowB.{Sound, state_at, Took, moved_sound}
use Rattle.merit.specs.NumbersStaySmall.{PlantSmall, Small, level_small, changed_small, charged_small, opened_small, took_small, shift_small}
use Rattle.merit.specs.RemainderMoves.{Shift, shift_moved, remainder_moves}
use Rattle.rules.specs.Group.{level, Amount, signed, Item, direct_mwh, incremental_mwh, direct_cost, incremental_cost, amount, OpenItem, open_mwh, open_grains, open_amount}
use Rattle.rules.specs.Hour.{member, share, Cells, Progress, shared, opening}
use Rattle.rules.specs.Words.{when◌then◌else◌}
use Rattle.rules.specs.declared.Hour.{Hour}
use Rattle.rules.specs.declared.Key.{Key}
use Rattle.rules.specs.declared.Running.{Running}

pub record SmallHour (h : Hour) : Type 0 where
  pub plants : (i : ℕ) → PlantSmall (plant_at h i)

abbrev pub SmallCell : ℤ → Type 0
SmallCell z = nat_abs z ≤ 100_000_000_000_000

signed_small : (s : Bool) (x : ℕ) → x ≤ 100_000_000_000_000 → SmallCell (signed s x)
signed_small true zero h = omega arith
signed_small true (suc x) h = h
signed_small false x h = h

-- what a group takes from a source, of each item
amount_small : (item : Item) (s t u : Running) → Sound t → Sound u → Small t → Small u → (amount item s t u).size ≤ 100_000_000_000_000
amount_small direct_mwh s t u gt gu lt lu = omega (arith, gt.part, lt.b)
amount_small incremental_mwh s t u gt gu lt lu = omega (arith, level_small t gt lt, level_small u gu lu)
amount_small direct_cost s t u gt gu lt lu = omega (arith, charged_small t gt lt)
amount_small incremental_cost s t u gt gu lt lu =
    omega (arith, changed_small t lt (level t) (level_small t gt lt), changed_small u lu (level u) (level_small u gu lu))

-- and what is left open of it
pub open_amount_small : (item : OpenItem) (s : Running) → Sound s → Small s → open_amount item s ≤ 100_000_000_000_000
open_amount_small open_mwh s g l = omega (arith, l.v)
open_amount_small open_grains s g l = omega (arith, changed_small s l (s.d + s.v) (omega (arith, level_small s g l)))

module _ (h : Hour) (ks : List Key) where
  -- where a run stands
  pub record Bounded (p : Progress) : Type 0 where
    pub states : (i : ℕ) → Small (state_at p.states i)
    pub cells : (j i : ℕ) (item : Item) → j < h.ndeliveries → SmallCell (p.cells j i item)

  shared_small : (x : Key) (ss ts us : List Running) (cell : Cells) (j i : ℕ) (item : Item) → j < h.ndeliveries → (amount item (state_at ss i) (state_at ts i) (state_at us i)).size ≤ 100_000_000_000_000 →
      SmallCell (cell j i item) → SmallCell (shared h ks x ss ts us cell j i item)
  unfolding shared
  shared_small x ss ts us cell j i item l small old = go (member ks x j)
    where
      a : Amount
      a = amount item (state_at ss i) (state_at ts i) (state_at us i)

      go : (y : Bool) → SmallCell (when y then share h ks x a j else cell j i item)
      go true = let m = share_most h ks x a j l in rw m.1 (signed_small a.minus m.0 (omega (arith, m.2)))
      go false = old

  pub grouped_bounded : (x : Key) (xs : List Key) (p q : Progress) → among xs x ≡ false → Balanced h ks (x ∷ xs) p → Grouped h ks x p q → Bounded p → Bounded q
  grouped_bounded x xs p q once b g k =
      rw g.is
      (record {
        states = small_after;
        cells = λ j i item l. shared_small x p.states ts us p.cells j i item l
            (amount_small item (state_at p.states i) (state_at ts i) (state_at us i) (took i).sound (moved_sound _ _ (took i).sound (shift_moved (took i).sound (moves i))) (small_lines i) (small_after i)) (k.cells j i item l);
      })
    where
      ts : List Running
      ts = after_lines h ks x p

      us : List Running
      us = g.us

      took : (i : ℕ) → Took (state_at p.states i) (state_at ts i)
      took i = (lines_directed h ks x xs p once b i).took

      moves : (i : ℕ) → Shift (state_at ts i) (state_at us i)
      moves = (remainder_moves _ _ _ _ ts us g.done).each

      small_lines : (i : ℕ) → Small (state_at ts i)
      small_lines i = took_small _ _ (k.states i) (took i)

      small_after : (i : ℕ) → Small (state_at us i)
      small_after i = shift_small (small_lines i) (moves i)

  pub start_bounded : SmallHour h → Bounded (opening h)
  start_bounded l = record { states = λ i. rw (opening_at h ks i) (opened_small (plant_at h i) (l.plants i)); cells = λ j i item y. omega arith }
