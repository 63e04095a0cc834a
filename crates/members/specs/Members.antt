-- The members in deck order: after the first j deliveries, the members among them have their shares.
use Rattle.std.specs.Prelude.{Bool, true, false, List, ◌≡◌, refl, ℕ, ◌+◌, ◌-◌, ◌*◌, ◌≤◌, ◌<◌, ℤ, pos, length, get_or, replicate}
use Rattle.std.proofs.Common.{ap, ◌∙◌, mul-le-mul, arith}
use Rattle.std.proofs.lemmas.List.{get_or-replicate}
use Rattle.balance.specs.AnswerCells.{cell_at}
use Rattle.laws.specs.Parts.{up_to_start, up_to_grows}
use Rattle.laws.specs.Sums.{below_suc, sum_to_none, sum_to_same, sum_to_more, sum_to_longer, sum_to_bound}
use Rattle.members.specs.Live.{row_width, Listed}
use Rattle.members.specs.declared.live.Placed.{Placed}
use Rattle.members.specs.Rows.{SizesSmall, RowFits, Row}
use Rattle.members.specs.Shared.{DeliveriesSmall}
use Rattle.rules.specs.Group.{Amount, signed, up_to}
use Rattle.rules.specs.Hour.{member, scheduled, counted}
use Rattle.rules.specs.Sequences.{no_delivery}
use Rattle.rules.specs.Words.{when◌then◌else◌, sum_to}
use Rattle.rules.specs.declared.Hour.{Hour}
use Rattle.rules.specs.declared.Key.{Key}

-- The group's MWh and members.

-- the MWh of the group's members among the first j of the deliveries, whose MWh are ms
abbrev pub scheduled_in : List ℕ → List Key → Key → ℕ → ℕ
scheduled_in ms ks x j = sum_to (λ i. when member ks x i then get_or ms i 0 else 0) j

-- n deliveries' MWh, at most 64,000 together
pub record MwhsSmall (ms : List ℕ) (n : ℕ) : Type 0 where
  pub few : n ≤ 32
  pub mwh : (j : ℕ) → j < n → get_or ms j 0 ≤ 2000

member_most : (y : Bool) (m n : ℕ) → m ≤ n → (when y then m else 0) ≤ n
member_most true m n l = l
member_most false m n l = omega arith

module _ (ms : List ℕ) (ks : List Key) (x : Key) where
  pub scheduled_small : (n : ℕ) → MwhsSmall ms n → (j : ℕ) → j ≤ n → scheduled_in ms ks x j ≤ j * 2000
  scheduled_small n d j l = sum_to_bound _ 2000 j (λ i m. member_most (member ks x i) (get_or ms i 0) 2000 (d.mwh i (omega arith)))

  scheduled_part : (n j : ℕ) → j ≤ n → scheduled_in ms ks x j ≤ scheduled_in ms ks x n
  scheduled_part n j l = sum_to_longer _ j n l

  pub scheduled_take : (j m : ℕ) → member ks x j ≡ true → m ≡ scheduled_in ms ks x j → m + get_or ms j 0 ≡ scheduled_in ms ks x (j + 1)
  scheduled_take j m e s = sum_to_more (λ i. when member ks x i then get_or ms i 0 else 0) j m (get_or ms j 0) s (rw e)

  pub scheduled_skip : (j m : ℕ) → member ks x j ≡ false → m ≡ scheduled_in ms ks x j → m ≡ scheduled_in ms ks x (j + 1)
  scheduled_skip j m e s = omega (arith, sum_to_more (λ i. when member ks x i then get_or ms i 0 else 0) j m 0 s (rw e))

module _ (ks : List Key) (x : Key) where
  pub counted_small : (j : ℕ) → counted ks x j ≤ j
  counted_small j = omega (arith, sum_to_bound (λ i. when member ks x i then 1 else 0) 1 j (λ i m. member_most (member ks x i) 1 1 (omega arith)))

  counted_take : (j c : ℕ) → member ks x j ≡ true → c ≡ counted ks x j → c + 1 ≡ counted ks x (j + 1)
  counted_take j c e s = sum_to_more (λ i. when member ks x i then 1 else 0) j c 1 s (rw e)

  counted_skip : (j c : ℕ) → member ks x j ≡ false → c ≡ counted ks x j → c ≡ counted ks x (j + 1)
  counted_skip j c e s = omega (arith, sum_to_more (λ i. when member ks x i then 1 else 0) j c 0 s (rw e))

-- The rows.

-- group x of `total` MWh, with room for n rows of a width; nothing stands in its members' rows
pub record RowsGiven (width n : ℕ) (ms : List ℕ) (ks : List Key) (x : Key) (total : ℕ) (a : ℕ → Amount) (xs : List ℤ) : Type 0 where
  pub mwhs : MwhsSmall ms n
  pub narrow : width ≤ row_width
  pub room : n * width ≤ length xs
  pub sum : total ≡ scheduled_in ms ks x n
  pub sizes_small : SizesSmall width a
  pub blank : (k q : ℕ) → k < n → member ks x k ≡ true → q < width → cell_at xs (k * width + q) ≡ pos 0

-- they may be written, of the amounts that are listed
pub record RowsReady (width n : ℕ) (ms : List ℕ) (ks : List Key) (x : Key) (total : ℕ) (live : List Placed) (xs : List ℤ) : Type 0 where
  pub a : ℕ → Amount
  pub given : RowsGiven width n ms ks x total a xs
  pub listed : Listed a width live

-- what member k has of the amount at place q: what is more with it
abbrev pub share_in : List ℕ → List Key → Key → ℕ → (ℕ → Amount) → ℕ → ℕ → ℤ
share_in ms ks x total a k q =
    signed (a q).minus
    (up_to total (a q).size (counted ks x k + 1) (scheduled_in ms ks x k + get_or ms k 0) - up_to total (a q).size (counted ks x k) (scheduled_in ms ks x k))

-- what is to stand at place q of delivery k's row, where z stood
abbrev pub due_in : List ℕ → List Key → Key → ℕ → (ℕ → Amount) → ℕ → ℕ → ℤ → ℤ
due_in ms ks x total a k q z = when member ks x k then share_in ms ks x total a k q else z

-- each row has what is due, and the rest stays
pub record RowsWritten (width n : ℕ) (ms : List ℕ) (ks : List Key) (x : Key) (total : ℕ) (a : ℕ → Amount) (xs ys : List ℤ) : Type 0 where
  pub long : length ys ≡ length xs
  pub rows : (k q : ℕ) → q < width → k < n → cell_at ys (k * width + q) ≡ due_in ms ks x total a k q (cell_at xs (k * width + q))
  pub beyond : (p : ℕ) → n * width ≤ p → cell_at ys p ≡ cell_at xs p

-- after the first j deliveries: `count` members among them, with `mwh` MWh together
pub record Going (width : ℕ) (ms : List ℕ) (ks : List Key) (x : Key) (total : ℕ) (a : ℕ → Amount) (xs : List ℤ) (j count mwh : ℕ) (had : List ℕ) (ys : List ℤ) : Type 0 where
  pub counts : count ≡ counted ks x j
  pub mwhs : mwh ≡ scheduled_in ms ks x j
  pub had_long : length had ≡ row_width
  pub has : (q : ℕ) → q < width → get_or had q 0 ≡ up_to total (a q).size count mwh
  pub long : length ys ≡ length xs
  pub done : (k q : ℕ) → q < width → k < j → cell_at ys (k * width + q) ≡ due_in ms ks x total a k q (cell_at xs (k * width + q))
  pub rest : (p : ℕ) → j * width ≤ p → cell_at ys p ≡ cell_at xs p

-- places of earlier rows are before this one's
pub earlier : (k j w q : ℕ) → k < j → q < w → k * w + q < j * w
earlier k j w q l m = let h : (k + 1) * w ≤ j * w = mul-le-mul (omega arith) (omega arith) in omega arith

module _ (w n : ℕ) (ms : List ℕ) (ks : List Key) (x : Key) (total : ℕ) (a : ℕ → Amount) (xs : List ℤ) (g : RowsGiven w n ms ks x total a xs) where
  abbrev At : ℕ → ℕ → ℕ → List ℕ → List ℤ → Type 0
  At = Going w ms ks x total a xs

  pub going_none : At 0 0 0 (replicate row_width 0) xs
  going_none = record {
    counts = sum_to_none _;
    mwhs = sum_to_none _;
    had_long = refl;
    has = λ q m. get_or-replicate row_width q 0 0 (omega (arith, g.narrow)) ∙ up_to_start total (a q).size;
    long = refl;
    done = λ k q m n. absurd (omega arith);
    rest = λ p m. refl;
  }

  pub going_skip : (j count mwh : ℕ) (had : List ℕ) (ys : List ℤ) → At j count mwh had ys → member ks x j ≡ false → At (j + 1) count mwh had ys
  going_skip j count mwh had ys s e = record {
    counts = counted_skip ks x j count e s.counts;
    mwhs = scheduled_skip ms ks x j mwh e s.mwhs;
    had_long = s.had_long;
    has = s.has;
    long = s.long;
    done = λ k q m n. below_suc (λ i. cell_at ys (i * w + q) ≡ due_in ms ks x total a i q (cell_at xs (i * w + q))) j
        (λ i l. s.done i q m l) (rw e (s.rest (j * w + q) (omega arith))) k (omega arith);
    rest = λ p m. s.rest p (omega arith);
  }

  -- a member's row may be written
  pub going_fits : (j count mwh : ℕ) (had : List ℕ) (ys : List ℤ) → j < n → At j count mwh had ys → member ks x j ≡ true
      → RowFits (j * w) w total (count + 1) (mwh + get_or ms j 0) a had ys
  going_fits j count mwh had ys l s e =
      let rows : (j + 1) * w ≤ n * w = mul-le-mul (omega arith) (omega arith) in
      let most : j ≤ 32 = omega (arith, g.mwhs.few) in
      let low : j * w ≤ 32 * row_width = mul-le-mul most g.narrow in
      let with = scheduled_take ms ks x j mwh e s.mwhs in
      record {
        narrow = g.narrow;
        low = omega arith;
        room = omega (arith, g.room, s.long);
        had_long = s.had_long;
        some = omega arith;
        mwh_small = omega (arith, scheduled_small ms ks x n g.mwhs (j + 1) (omega arith), g.mwhs.few);
        part = omega (arith, g.sum, scheduled_part ms ks x n (j + 1) (omega arith));
        sizes_small = g.sizes_small;
        grows = λ q m. omega (arith, s.has q m, up_to_grows total (a q).size count mwh (count + 1) (mwh + get_or ms j 0) (omega arith) (omega arith));
        blank = λ q m. s.rest (j * w + q) (omega arith) ∙ g.blank j q l e m;
      }

  -- what the members have more with a member is its share
  its_share : (j count mwh q : ℕ) → count ≡ counted ks x j → mwh ≡ scheduled_in ms ks x j
      → signed (a q).minus (up_to total (a q).size (count + 1) (mwh + get_or ms j 0) - up_to total (a q).size count mwh) ≡ share_in ms ks x total a j q
  its_share j count mwh q c s = rw (c, s)

  pub going_take : (j count mwh : ℕ) (had has : List ℕ) (ys zs : List ℤ) → At j count mwh had ys → member ks x j ≡ true
      → Row (j * w) total (count + 1) (mwh + get_or ms j 0) a had ys w has zs → At (j + 1) (count + 1) (mwh + get_or ms j 0) has zs
  going_take j count mwh had has ys zs s e r = record {
    counts = counted_take ks x j count e s.counts;
    mwhs = scheduled_take ms ks x j mwh e s.mwhs;
    had_long = r.has_long ∙ s.had_long;
    has = r.has_more;
    long = r.long ∙ s.long;
    done = λ k q n l. below_suc (λ i. cell_at zs (i * w + q) ≡ due_in ms ks x total a i q (cell_at xs (i * w + q))) j
        (λ i o. r.before (i * w + q) (earlier i j w q o n) ∙ s.done i q n o)
        (rw e (r.inside q n ∙ ap (λ (y : ℕ). signed (a q).minus (up_to total (a q).size (count + 1) (mwh + get_or ms j 0) - y)) (s.has q n) ∙
        its_share j count mwh q s.counts s.mwhs))
        k (omega arith);
    rest = λ p n. r.beyond p (omega arith) ∙ s.rest p (omega arith);
  }

  pub going_all : (j count mwh : ℕ) (had : List ℕ) (ys : List ℤ) → j ≤ n → n ≤ j → At j count mwh had ys → RowsWritten w n ms ks x total a xs ys
  going_all j count mwh had ys l m s = record {
    long = s.long;
    rows = λ k q o p. s.done k q o (omega arith);
    beyond = λ p o. s.rest p (let e : j ≡ n = omega arith in rw e o);
  }

-- In the hour's words.

-- the deliveries' MWh in a table
pub record MwhsOf (h : Hour) (ms : List ℕ) : Type 0 where
  pub long : length ms ≡ 32
  pub mwh : (j : ℕ) → j < h.ndeliveries → get_or ms j 0 ≡ (get_or h.deliveries j no_delivery).mwh

module _ (h : Hour) (ms : List ℕ) (m : MwhsOf h ms) where
  pub mwhs_small : DeliveriesSmall h → MwhsSmall ms h.ndeliveries
  mwhs_small d = record { few = d.few; mwh = λ j l. omega (arith, m.mwh j l, d.mwh j l) }

  module _ (ks : List Key) (x : Key) where
    pub scheduled_in_lem : (j : ℕ) → j ≤ h.ndeliveries → scheduled_in ms ks x j ≡ scheduled h ks x j
    scheduled_in_lem j l = sum_to_same j _ _ (λ i o. ap (λ (y : ℕ). when member ks x i then y else 0) (m.mwh i (omega arith)))

    pub total_scheduled : (total : ℕ) → total ≡ scheduled_in ms ks x h.ndeliveries → total ≡ scheduled h ks x h.ndeliveries
    total_scheduled total e = e ∙ scheduled_in_lem h.ndeliveries (omega arith)
