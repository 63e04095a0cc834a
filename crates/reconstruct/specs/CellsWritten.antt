-- The cells of a whole run as a list: those of the pairs, and each source's open MWh and open cost put after them, are the answer's.
use Rattle.std.specs.Prelude.{List, map, ◌≡◌, refl, ℤ, pos, get_or, set, take}
use Rattle.std.proofs.Math.Path.{sym}
use Rattle.std.proofs.Common.{ap, ◌∙◌, le_refl, add-one, arith, length-set, get_or-set_same, get_or-set_other}
use Prim.Native.Nat.{ℕ, zero, suc, ◌+◌, ◌-◌, ◌*◌, ◌≤◌, ◌<◌}
use Rattle.std.proofs.Math.Decide.{dec_lt}
use Rattle.std.proofs.Math.Nat.{mul-le-mul}
use Rattle.std.proofs.Math.ListN.{length}
use Rattle.std.proofs.Math.Seq.{length-take-le, get_or-take, ext_get_or}
use Rattle.balance.specs.AnswerCells.{cell_at, pair_place, open_place, pair_at, open_at, cells_length}
use Rattle.laws.specs.Sums.{below_suc}
use Rattle.members.specs.Live.{row_width}
use Rattle.merit.specs.LevelNeverBelowB.{state_at}
use Rattle.merit.specs.NumbersStaySmall.{level_small, changed_small}
use Rattle.rules.specs.Group.{no_running, OpenItem, open_mwh, open_grains, open_amount}
use Rattle.rules.specs.Hour.{Cells, Progress, pair_cells, open_items, open_cells, cells_of, pair_width, open_width, cell_count}
use Rattle.rules.specs.declared.Hour.{Hour}
use Rattle.rules.specs.declared.Running.{Running}
use Rattle.ladder.specs.Ready.{Ready, AllReady}

-- lent cells that have what a run has given
pub record Held (h : Hour) (xs : List ℤ) (cells : Cells) : Type 0 where
  pub at : (j i k : ℕ) → j < h.ndeliveries → i < h.nsources → k < pair_width → cell_at xs (pair_place h j i k) ≡ get_or (pair_cells cells j i) k (pos 0)

-- One source's open amounts.

pub record AmountsFit (at : ℕ) (amounts : List ℕ) (xs : List ℤ) : Type 0 where
  pub low : at ≤ 32 * row_width + 32 * open_width
  pub room : at + open_width ≤ length xs
  pub small : (k : ℕ) → k < open_width → get_or amounts k 0 ≤ 100_000_000_000_000

-- of xs, ys with the first n of them from a place on
pub record AmountsPut (at : ℕ) (amounts : List ℕ) (n : ℕ) (xs ys : List ℤ) : Type 0 where
  pub long : length ys ≡ length xs
  pub before : (m : ℕ) → m < at → cell_at ys m ≡ cell_at xs m
  pub inside : (k : ℕ) → k < n → cell_at ys (at + k) ≡ pos (get_or amounts k 0)
  pub beyond : (m : ℕ) → at + n ≤ m → cell_at ys m ≡ cell_at xs m

module _ (at : ℕ) (amounts : List ℕ) (xs : List ℤ) where
  pub amounts_none : AmountsPut at amounts 0 xs xs
  amounts_none = record { long = refl; before = λ m l. refl; inside = λ k l. absurd (omega arith); beyond = λ m l. refl }

  pub amounts_more : (n : ℕ) (ys : List ℤ) (z : ℤ) → at + n < length xs → AmountsPut at amounts n xs ys → z ≡ pos (get_or amounts n 0) → AmountsPut at amounts (n + 1) xs (set ys (at + n) z)
  amounts_more n ys z l p e = record {
    long = length-set ys (at + n) z ∙ p.long;
    before = λ m b. get_or-set_other ys (at + n) m z (pos 0) (λ q. omega arith) ∙ p.before m b;
    inside = rw (add-one n) (below_suc (λ k. cell_at (set ys (at + n) z) (at + k) ≡ pos (get_or amounts k 0)) n
        (λ k b. get_or-set_other ys (at + n) (at + k) z (pos 0) (λ q. omega arith) ∙ p.inside k b)
        (get_or-set_same ys (at + n) z (pos 0) (omega (arith, p.long)) ∙ e));
    beyond = λ m b. get_or-set_other ys (at + n) m z (pos 0) (λ q. omega arith) ∙ p.beyond m (omega arith);
  }

  pub amounts_all : (n i : ℕ) (ys : List ℤ) → i ≤ n → n ≤ i → AmountsPut at amounts i xs ys → AmountsPut at amounts n xs ys
  amounts_all n i ys a b p = let e : i ≡ n = omega arith in rw e at p

-- what the open energy of a source costs fits a cell
open_small : (s : Running) → Ready s → (item : OpenItem) → open_amount item s ≤ 100_000_000_000_000
open_small s r open_mwh = omega (arith, r.small.v)
open_small s r open_grains = omega (arith, changed_small s r.small (s.d + s.v) (omega (arith, level_small s r.sound r.small)))

-- a number of each open item in a list, read at an item's place
open_read : {A : Type 0} (f : OpenItem → A) (d : A) (P : A → Type 0) → ((item : OpenItem) → P (f item)) → (k : ℕ) → k < open_width → P (get_or (map f open_items) k d)
open_read f d P h zero l = h open_mwh
open_read f d P h (suc zero) l = h open_grains
open_read f d P h (suc (suc k)) l = absurd (omega arith)

pub amounts_small : (s : Running) (amounts : List ℕ) → Ready s → amounts ≡ map (λ item. open_amount item s) open_items → (k : ℕ) → k < open_width → get_or amounts k 0 ≤ 100_000_000_000_000
amounts_small s amounts r e k l = rw e (open_read (λ item. open_amount item s) 0 (λ x. x ≤ 100_000_000_000_000) (open_small s r) k l)

same_cell : (ss : List Running) (i k : ℕ) → k < open_width → pos (get_or (map (λ item. open_amount item (state_at ss i)) open_items) k 0) ≡ get_or (open_cells ss i) k (pos 0)
same_cell ss i zero l = refl
same_cell ss i (suc zero) l = refl
same_cell ss i (suc (suc k)) l = absurd (omega arith)

-- Each source's.

-- where the sources' open energy may be put
pub record OpenFits (ss : List Running) (at : ℕ) (xs : List ℤ) : Type 0 where
  pub few : length ss ≤ 32
  pub ready : (i : ℕ) → i < length ss → Ready (state_at ss i)
  pub low : at ≤ 32 * row_width
  pub room : at + length ss * open_width ≤ length xs

-- of xs, ys with the open items of n sources from a place on
pub record OpenPut (ss : List Running) (at n : ℕ) (xs ys : List ℤ) : Type 0 where
  pub long : length ys ≡ length xs
  pub before : (m : ℕ) → m < at → cell_at ys m ≡ cell_at xs m
  pub inside : (i k : ℕ) → k < open_width → i < n → cell_at ys (at + (i * open_width + k)) ≡ get_or (open_cells ss i) k (pos 0)
  pub beyond : (m : ℕ) → at + n * open_width ≤ m → cell_at ys m ≡ cell_at xs m

module _ (ss : List Running) (at : ℕ) (xs : List ℤ) where
  pub open_none : OpenPut ss at 0 xs xs
  open_none = record { long = refl; before = λ m l. refl; inside = λ i k b l. absurd (omega arith); beyond = λ m l. refl }

  pub open_more : (n : ℕ) (amounts : List ℕ) (ys zs : List ℤ) → OpenPut ss at n xs ys → amounts ≡ map (λ item. open_amount item (state_at ss n)) open_items → AmountsPut (at + n * open_width) amounts open_width ys zs → OpenPut ss at (n + 1) xs zs
  open_more n amounts ys zs p e a = record {
    long = a.long ∙ p.long;
    before = λ m b. a.before m (omega arith) ∙ p.before m b;
    inside = λ i k b l. below_suc (λ i. cell_at zs (at + (i * open_width + k)) ≡ get_or (open_cells ss i) k (pos 0)) n
        (λ i l. a.before (at + (i * open_width + k)) (omega arith) ∙ p.inside i k b l)
        (here k b) i (omega arith);
    beyond = λ m b. a.beyond m (omega arith) ∙ p.beyond m (omega arith);
  }
    where
      here : (k : ℕ) → k < open_width → cell_at zs (at + (n * open_width + k)) ≡ get_or (open_cells ss n) k (pos 0)
      here k b =
          let z : at + (n * open_width + k) ≡ at + n * open_width + k = omega arith in
          ap (cell_at zs) z ∙ a.inside k b ∙ ap (λ (zs : List ℕ). pos (get_or zs k 0)) e ∙ same_cell ss n k b

  pub open_all_lem : (n i : ℕ) (ys : List ℤ) → i ≤ n → n ≤ i → OpenPut ss at i xs ys → OpenPut ss at n xs ys
  open_all_lem n i ys a b p = let e : i ≡ n = omega arith in rw e at p

-- of the first n alone
module _ (ss : List Running) (n : ℕ) (l : n ≤ length ss) where
  at_taken : (i : ℕ) → i < n → state_at (take n ss) i ≡ state_at ss i
  at_taken i m = get_or-take n ss i no_running m

  pub open_fits_taken : (at : ℕ) (xs : List ℤ) → AllReady ss n → at ≤ 32 * row_width → at + n * open_width ≤ length xs → OpenFits (take n ss) at xs
  open_fits_taken at xs r a b =
      let e = length-take-le n ss l in
      record { few = omega (arith, e, r.n_small); ready = λ i m. rw (at_taken i (omega (arith, e))) (r.ready i); low = a; room = rw e b }

  pub open_put_taken : (at : ℕ) (xs ys : List ℤ) → OpenPut (take n ss) at (length (take n ss)) xs ys → OpenPut ss at n xs ys
  open_put_taken at xs ys p =
      let q : OpenPut (take n ss) at n xs ys = rw (length-take-le n ss l) at p in
      record { long = q.long; before = q.before; inside = λ i k b m. q.inside i k b m ∙ ap (λ (s : Running). get_or (map (λ item. pos (open_amount item s)) open_items) k (pos 0)) (at_taken i m); beyond = q.beyond }

-- what holds of each place of n pieces of length w
pieces : (P : ℕ → Type 0) (w n : ℕ) → ((j r : ℕ) → j < n → r < w → P (j * w + r)) → (m : ℕ) → m < n * w → P m
pieces P w zero f m l = absurd (omega arith)
pieces P w (suc n) f m l = elim (dec_lt m (n * w)) [
  | yes a ↦ pieces P w n (λ j r b c. f j r (omega arith) c) m a
  | no a ↦ (let e : m ≡ n * w + (m - n * w) = omega arith in rw e (f n (m - n * w) (omega arith) (omega arith)))
]

module _ (h : Hour) (p : Progress) (xs ys : List ℤ) (held : Held h xs p.cells) (put : OpenPut p.states (h.ndeliveries * (h.nsources * pair_width)) h.nsources xs ys) where
  Same : ℕ → Type 0
  Same m = cell_at ys m ≡ cell_at (cells_of h p) m

  pair_same : (j i k : ℕ) → j < h.ndeliveries → i < h.nsources → k < pair_width → Same (pair_place h j i k)
  unfolding Same
  pair_same j i k a b l =
      let row : suc j * (h.nsources * pair_width) ≤ h.ndeliveries * (h.nsources * pair_width) = mul-le-mul a (le_refl (h.nsources * pair_width)) in
      put.before (pair_place h j i k) (omega arith) ∙ held.at j i k a b l ∙ sym (pair_at h p j i k a b l)

  open_same : (i k : ℕ) → i < h.nsources → k < open_width → Same (open_place h i k)
  unfolding Same
  open_same i k a l = put.inside i k l a ∙ sym (open_at h p i k a l)

  every_same : (m : ℕ) → m < cell_count h → Same m
  every_same m l =
      let pairs = h.ndeliveries * (h.nsources * pair_width) in
      elim (dec_lt m pairs) [
        | yes a ↦ pieces Same (h.nsources * pair_width) h.ndeliveries (λ j r b c. pieces (λ x. Same (j * (h.nsources * pair_width) + x)) pair_width h.nsources (λ i k d e. pair_same j i k b d e) r c) m a
        | no a ↦ (
            let e : m ≡ pairs + (m - pairs) = omega arith in
            rw e (pieces (λ x. Same (pairs + x)) open_width h.nsources open_same (m - pairs) (omega arith)))
      ]

  pub cells_written : cell_count h ≤ length ys → take (cell_count h) ys ≡ cells_of h p
  unfolding Same
  cells_written l =
      let e : length (take (cell_count h) ys) ≡ cell_count h = length-take-le (cell_count h) ys l in
      ext_get_or (pos 0) (take (cell_count h) ys) (cells_of h p) (e ∙ sym (cells_length h p))
      (λ m b. get_or-take (cell_count h) ys m (pos 0) (omega arith) ∙ every_same m (omega arith))
