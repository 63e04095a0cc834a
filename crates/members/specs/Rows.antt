-- A row: one member's cells, place by place, and what the members have with it.
use Rattle.std.specs.Prelude.{Bool, true, false, List, ◌≡◌, refl, ℕ, ◌+◌, ◌-◌, ◌*◌, ◌≤◌, ◌<◌, ℤ, pos, length, get_or, set}
use Rattle.std.proofs.Common.{◌∙◌, add-one, arith, length-set, get_or-set_same, get_or-set_other}
use Rattle.std.proofs.Math.Decide.{dec_lt}
use Rattle.balance.specs.AnswerCells.{cell_at}
use Rattle.laws.specs.Parts.{up_to_nothing}
use Rattle.laws.specs.Sums.{below_suc}
use Rattle.members.specs.Live.{row_width, place_at, placed_at, reached, Listed, reached_more, reached_most}
use Rattle.members.specs.declared.live.Placed.{Placed}
use Rattle.rules.specs.Group.{Amount, signed, up_to}

abbrev pub SizesSmall : ℕ → (ℕ → Amount) → Type 0
SizesSmall width a = (q : ℕ) → q < width → (a q).size ≤ 100_000_000_000_000

-- a member with whom the group's `count` members have `mwh` of its `total` MWh; `had` is what those before it have of each size
pub record RowFits (at width total count mwh : ℕ) (a : ℕ → Amount) (had : List ℕ) (xs : List ℤ) : Type 0 where
  pub narrow : width ≤ row_width
  pub low : at ≤ 32 * row_width
  pub room : at + width ≤ length xs
  pub had_long : length had ≡ row_width
  pub some : 0 < count
  pub mwh_small : mwh ≤ 64_000
  pub part : mwh ≤ total
  pub sizes_small : SizesSmall width a
  pub grows : (q : ℕ) → q < width → get_or had q 0 ≤ up_to total (a q).size count mwh
  pub blank : (q : ℕ) → q < width → cell_at xs (at + q) ≡ pos 0

-- it may be written, of the amounts that are listed
pub record RowReady (at total count mwh : ℕ) (live : List Placed) (had : List ℕ) (xs : List ℤ) : Type 0 where
  pub width : ℕ
  pub a : ℕ → Amount
  pub fits : RowFits at width total count mwh a had xs
  pub listed : Listed a width live

-- its share of each size stands from `at` on, and the rest stays
pub record Row (at total count mwh : ℕ) (a : ℕ → Amount) (had : List ℕ) (xs : List ℤ) (width : ℕ) (has : List ℕ) (ys : List ℤ) : Type 0 where
  pub has_long : length has ≡ length had
  pub has_more : (q : ℕ) → q < width → get_or has q 0 ≡ up_to total (a q).size count mwh
  pub has_still : (q : ℕ) → width ≤ q → get_or has q 0 ≡ get_or had q 0
  pub long : length ys ≡ length xs
  pub inside : (q : ℕ) → q < width → cell_at ys (at + q) ≡ signed (a q).minus (up_to total (a q).size count mwh - get_or had q 0)
  pub before : (p : ℕ) → p < at → cell_at ys p ≡ cell_at xs p
  pub beyond : (p : ℕ) → at + width ≤ p → cell_at ys p ≡ cell_at xs p

signed_nothing : (y : Bool) (n : ℕ) → n ≡ 0 → pos 0 ≡ signed y n
signed_nothing true n e = rw e
signed_nothing false n e = rw e

-- The row's loop: up to where the listed places reach.

module _ (at total count mwh : ℕ) (a : ℕ → Amount) (had : List ℕ) (xs : List ℤ) where
  pub row_none : (live : List Placed) → Row at total count mwh a had xs (reached live 0) had xs
  unfolding reached
  row_none live = record {
    has_long = refl;
    has_more = λ q l. absurd (omega arith);
    has_still = λ q l. refl;
    long = refl;
    inside = λ q l. absurd (omega arith);
    before = λ p l. refl;
    beyond = λ p l. refl;
  }

  row_more : (width q : ℕ) (has : List ℕ) (ys : List ℤ) (v : ℕ) (z : ℤ) → RowFits at width total count mwh a had xs → q < width
      → Row at total count mwh a had xs q has ys → v ≡ up_to total (a q).size count mwh → z ≡ signed (a q).minus (v - get_or has q 0)
      → Row at total count mwh a had xs (q + 1) (set has q v) (set ys (at + q) z)
  row_more width q has ys v z f l r e s = record {
    has_long = length-set has q v ∙ r.has_long;
    has_more = rw (add-one q) (below_suc (λ k. get_or (set has q v) k 0 ≡ up_to total (a k).size count mwh) q
        (λ k m. get_or-set_other has q k v 0 (λ w. omega arith) ∙ r.has_more k m)
        (get_or-set_same has q v 0 (omega (arith, r.has_long, f.had_long, f.narrow)) ∙ e));
    has_still = λ k m. get_or-set_other has q k v 0 (λ w. omega arith) ∙ r.has_still k (omega arith);
    long = length-set ys (at + q) z ∙ r.long;
    inside = rw (add-one q) (below_suc (λ k. cell_at (set ys (at + q) z) (at + k) ≡ signed (a k).minus (up_to total (a k).size count mwh - get_or had k 0)) q
        (λ k m. get_or-set_other ys (at + q) (at + k) z (pos 0) (λ w. omega arith) ∙ r.inside k m)
        (get_or-set_same ys (at + q) z (pos 0) (omega (arith, r.long, f.room)) ∙ s ∙ still q (r.has_still q (omega arith)) e));
    before = λ p m. get_or-set_other ys (at + q) p z (pos 0) (λ w. omega arith) ∙ r.before p m;
    beyond = λ p m. get_or-set_other ys (at + q) p z (pos 0) (λ w. omega arith) ∙ r.beyond p (omega arith);
  }
    where
      still : (q : ℕ) → get_or has q 0 ≡ get_or had q 0 → v ≡ up_to total (a q).size count mwh
          → signed (a q).minus (v - get_or has q 0) ≡ signed (a q).minus (up_to total (a q).size count mwh - get_or had q 0)
      still q x y = rw (x, y)

  -- a place of size 0 stands already
  row_idle : (width p q : ℕ) (has : List ℕ) (ys : List ℤ) → RowFits at width total count mwh a had xs → p ≤ q → q ≤ width → ((i : ℕ) → p ≤ i → i < q → (a i).size ≡ 0)
      → Row at total count mwh a had xs p has ys → Row at total count mwh a had xs q has ys
  row_idle width p q has ys f l m n r = record {
    has_long = r.has_long;
    has_more = λ k o. elim (dec_lt k p) [
      | yes y ↦ r.has_more k y
      | no y ↦ omega (arith, r.has_still k (omega arith), nothing k (omega arith) o, f.grows k (omega arith))
    ];
    has_still = λ k o. r.has_still k (omega arith);
    long = r.long;
    inside = λ k o. elim (dec_lt k p) [
      | yes y ↦ r.inside k y
      | no y ↦ r.beyond (at + k) (omega arith) ∙ f.blank k (omega arith) ∙ signed_nothing (a k).minus _ (omega (arith, nothing k (omega arith) o))
    ];
    before = r.before;
    beyond = λ k o. r.beyond k (omega arith);
  }
    where
      nothing : (k : ℕ) → p ≤ k → k < q → 0 ≡ up_to total (a k).size count mwh
      nothing k x y = up_to_nothing total (a k).size count mwh (n k x y)

  -- the next that is listed
  pub row_next : (width k : ℕ) (live : List Placed) (has : List ℕ) (ys : List ℤ) (v : ℕ) (z : ℤ) → RowFits at width total count mwh a had xs
      → Listed a width live → k < length live → Row at total count mwh a had xs (reached live k) has ys
      → v ≡ up_to total (placed_at live k).size count mwh → z ≡ signed (placed_at live k).minus (v - get_or has (place_at live k) 0)
      → Row at total count mwh a had xs (reached live (k + 1)) (set has (place_at live k) v) (set ys (at + place_at live k) z)
  row_next width k live has ys v z f l m r e s =
      let q = place_at live k in
      let inside : place_at live k < width = l.place k m in
      rw (reached_more live k) (row_more width q has ys v z f inside
      (row_idle width (reached live k) q has ys f (l.rises k m) (omega arith) (λ i x y. l.between k i m x y) r) (rw (l.amount k m) at e) (rw (l.amount k m) at s))

  pub row_all : (width k : ℕ) (live : List Placed) (has : List ℕ) (ys : List ℤ) → RowFits at width total count mwh a had xs
      → Listed a width live → k ≤ length live → length live ≤ k → Row at total count mwh a had xs (reached live k) has ys → Row at total count mwh a had xs width has ys
  row_all width k live has ys f l x y r =
      let e : k ≡ length live = omega arith in
      row_idle width (reached live (length live)) width has ys f (reached_most a width live l (length live) (omega arith)) (omega arith) l.after (rw e at r)
