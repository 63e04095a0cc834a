-- Where the plants' numbers are in document 01's ranges, every cell of an answer is at most 10^14 in size, and so fits 64 signed bits.
use Rattle.std.specs.Prelude.{List, [], ◌∷◌, ◌++◌, map, ◌≡◌, ℕ, zero, suc, ◌^◌, ◌<◌, ℤ, pos, negsuc}
use Rattle.std.proofs.Common.{append-nil, arith}
use Rattle.std.specs.Int.Signed.{mag}
use Rattle.std.specs.Int.{w64}
use mir.Val.{SFits, hbits}
use Rattle.balance.specs.AnswerCells.{cell_at, answer_cells}
use Rattle.balance.specs.HourBalances.{Given, groups_keep, Balanced, start_balanced}
use Rattle.balance.proofs.HourBalances.{grouped_balanced}
use Rattle.laws.specs.Keys.{first_once, Turns}
use Rattle.balance.specs.KeysOfAnHour.{hour_turns}
use Rattle.merit.specs.LevelNeverBelowB.{Sound, state_at}
use Rattle.rules.specs.Group.{open_amount}
use Rattle.rules.specs.Hour.{keys, Progress, turns, groups, opening, reconstructed, items, pair_cells, open_items, open_cells, cells_of, answer}
use Rattle.rules.specs.Refusals.{accepted}
use Rattle.rules.specs.Words.{list_to}
use Rattle.rules.specs.declared.Hour.{Hour}
use Rattle.rules.specs.declared.Key.{Key}
use Rattle.balance.specs.CellsFit.{SmallHour, SmallCell, open_amount_small, Bounded, grouped_bounded, start_bounded}

module _ (h : Hour) (ks : List Key) where
  -- wherever a run stands, when the groups of xs are still to come
  pub groups_bounded : Given h → SmallHour h → (ys xs : List Key) → Turns ks h.ndeliveries (ys ++ xs) → (q : Progress) → groups h ks ys (opening h) ≡ accepted q → Balanced h ks xs q × Bounded h ks q
  groups_bounded g l ys xs t q e =
      groups_keep h ks (λ zs p. Balanced h ks zs p × Bounded h ks p)
      (λ x zs p r u b s. (grouped_balanced h ks x zs p r u b.0 s, grouped_bounded h ks x zs p r (first_once x zs u.ordered) b.0 s b.1))
      ys xs (opening h) q t (start_balanced h ks g (ys ++ xs), start_bounded h ks l) e

-- a list of small cells, read anywhere

SmallCells : List ℤ → Type 0
SmallCells xs = (k : ℕ) → SmallCell (cell_at xs k)

nil_small : SmallCells []
unfolding SmallCells
nil_small k = omega arith

cons_small : (x : ℤ) (xs : List ℤ) → SmallCell x → SmallCells xs → SmallCells (x ∷ xs)
unfolding SmallCells
cons_small x xs a b zero = a
cons_small x xs a b (suc k) = b k

append_small : (xs ys : List ℤ) → SmallCells xs → SmallCells ys → SmallCells (xs ++ ys)
unfolding SmallCells
append_small [] ys a b k = b k
append_small (x ∷ xs) ys a b zero = a 0
append_small (x ∷ xs) ys a b (suc k) = append_small xs ys (λ i. a (suc i)) b k

map_small : {A : Type 0} (f : A → ℤ) (xs : List A) → ((x : A) → SmallCell (f x)) → SmallCells (map f xs)
map_small f [] h = nil_small
map_small f (x ∷ xs) h = cons_small (f x) (map f xs) (h x) (map_small f xs h)

list_to_small : (f : ℕ → List ℤ) (n : ℕ) → ((i : ℕ) → i < n → SmallCells (f i)) → SmallCells (list_to f n)
unfolding list_to
list_to_small f zero h = nil_small
list_to_small f (suc n) h = append_small (list_to f n) (f n) (list_to_small f n (λ i l. h i (omega arith))) (h n (omega arith))

module _ (h : Hour) (p : Progress) (sound : (i : ℕ) → Sound (state_at p.states i)) (b : Bounded h (keys h) p) where
  pair_small : (j i : ℕ) → j < h.ndeliveries → SmallCells (pair_cells p.cells j i)
  pair_small j i l = map_small (p.cells j i) items (λ item. b.cells j i item l)

  open_small : (i : ℕ) → SmallCells (open_cells p.states i)
  open_small i = let s = state_at p.states i in map_small (λ item. pos (open_amount item s)) open_items (λ item. open_amount_small item s (sound i) (b.states i))

  cells_small : SmallCells (cells_of h p)
  unfolding cells_of
  cells_small =
      append_small _ _ (list_to_small _ h.ndeliveries (λ j l. list_to_small (pair_cells p.cells j) h.nsources (λ i m. pair_small j i l)))
      (list_to_small (open_cells p.states) h.nsources (λ i l. open_small i))

pub answer_small : (h : Hour) → Given h → SmallHour h → (xs : List ℤ) → answer h ≡ accepted xs → (k : ℕ) → SmallCell (cell_at xs k)
unfolding SmallCells reconstructed
answer_small h g l xs e =
    let a = answer_cells h xs e in
    let p = a.progress in
    let b = groups_bounded h (keys h) g l (turns (keys h)) [] (rw (append-nil (turns (keys h))) (hour_turns h)) p a.run in
    rw a.is (cells_small h p b.0.sound b.1)

pub answer_fits : (h : Hour) → Given h → SmallHour h → (xs : List ℤ) → answer h ≡ accepted xs → (k : ℕ) → SFits w64 (cell_at xs k)
answer_fits h g l xs e k = record { sfits = go (cell_at xs k) (answer_small h g l xs e k) }
  where
    go : (z : ℤ) → SmallCell z → mag z < 2 ^ hbits w64
    go (pos n) a = omega arith
    go (negsuc n) a = omega arith
