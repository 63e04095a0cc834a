-- The groups' first members, and all groups' shares in the hour's cells.
use Rattle.std.specs.Prelude.{Bool, true, false, List, ◌≡◌, refl, ℕ, suc, ◌+◌, ◌-◌, ◌*◌, ◌/◌, ◌%◌, ◌≤◌, ◌<◌, ℤ, pos, length, get_or, take, Option, Some, None, MatchOption}
use Rattle.std.specs.List.{AllWithin, HoldsAt}
use Rattle.std.proofs.lemmas.List.{get_or-take}
use Rattle.std.proofs.Common.{sym, ap, ◌∙◌, arith, length-take}
use Rattle.std.proofs.Math.Decide.{dec_lt}
use Rattle.balance.specs.AnswerCells.{cell_at, pair_place}
use Rattle.laws.specs.Keys.{key_same, key_itself}
use Rattle.laws.specs.Sums.{below_suc, sum_to_zero}
use Rattle.members.specs.Live.{amount_at, amount_told}
use Rattle.members.specs.Members.{MwhsSmall, MwhsOf, scheduled_in, share_in, due_in, RowsGiven, RowsWritten, earlier, mwhs_small, scheduled_in_lem}
use Rattle.members.specs.Shared.{DeliveriesSmall}
use Rattle.merit.specs.LevelNeverBelowB.{state_at}
use Rattle.merit.specs.NumbersStaySmall.{Small}
use Rattle.moves.specs.MovesKept.{AllLow}
use Rattle.moves.specs.ToldIsTaken.{told, item_at, told_small}
use Rattle.rules.specs.Group.{Amount}
use Rattle.rules.specs.Hour.{no_key, key_at, member, scheduled, counted, share, pair_width}
use Rattle.rules.specs.Hour.{same_key}
use Rattle.rules.specs.declared.Hour.{Hour}
use Rattle.rules.specs.declared.Key.{Key}
use Rattle.rules.specs.declared.Running.{Running}
use Rattle.members.specs.Sharing.{member_share}

never : {b : Bool} → b ≡ true → b ≡ false → ⊥
never e f = let z : ◌≡◌ {A = ℕ} 0 1 = cc in omega arith

-- the first of n deliveries whose key is x
pub record Lead (ks : List Key) (n : ℕ) (x : Key) (j : ℕ) : Type 0 where
  pub within : j < n
  pub key : member ks x j ≡ true
  pub first : (k : ℕ) → k < j → member ks x k ≡ false

-- delivery j leads its group, and has one more than its MWh beside it
pub record Led (n : ℕ) (ms : List ℕ) (ks : List Key) (led : List ℕ) (j : ℕ) : Type 0 where
  pub lead : Lead ks n (key_at ks j) j
  pub sum : get_or led j 0 ≡ suc (scheduled_in ms ks (key_at ks j) n)

-- every group that is led, its moves in its lead's row, with room for n rows of a pair's cells a source, where nothing stands
pub record AllGiven (sources n : ℕ) (ms : List ℕ) (ks : List Key) (led : List ℕ) (es : List Running) (kept : List ℕ) (xs : List ℤ) : Type 0 where
  pub mwhs : MwhsSmall ms n
  pub few : sources ≤ 32
  pub room : n * (sources * pair_width) ≤ length xs
  pub leads : (j : ℕ) → j < n → 0 < get_or led j 0 → Led n ms ks led j
  pub small : (i : ℕ) → Small (state_at es i)
  pub low : AllLow kept
  pub blank : (p : ℕ) → p < n * (sources * pair_width) → cell_at xs p ≡ pos 0

-- the members of each group that is led have their shares, and the cells after the rows stay
pub record AllShared (sources n : ℕ) (ms : List ℕ) (ks : List Key) (led : List ℕ) (es : List Running) (kept : List ℕ) (xs ys : List ℤ) : Type 0 where
  pub long : length ys ≡ length xs
  pub rows : (j k q : ℕ) → j < n → 0 < get_or led j 0 → k < n → member ks (key_at ks j) k ≡ true → q < sources * pair_width
      → cell_at ys (k * (sources * pair_width) + q) ≡ share_in ms ks (key_at ks j) (scheduled_in ms ks (key_at ks j) n) (amount_at es kept (j * 32)) k q
  pub beyond : (p : ℕ) → n * (sources * pair_width) ≤ p → cell_at ys p ≡ cell_at xs p

-- one delivery, two keys: they are the same
both_members : (ks : List Key) (x y : Key) (k : ℕ) → member ks x k ≡ true → member ks y k ≡ true → x ≡ y
both_members ks x y k e f = sym (key_same (key_at ks k) x e) ∙ key_same (key_at ks k) y f

same_member : (x y : Key) → x ≡ y → same_key x y ≡ true
same_member x y e = rw e (key_itself y)

-- where none is a member, none is counted
pub lead_none : (ks : List Key) (n : ℕ) (x : Key) → ((k : ℕ) → k < n → member ks x k ≡ false) → counted ks x n ≡ 0
lead_none ks n x h = sum_to_zero n _ (λ k l. rw (h k l))

-- the first that has the key, where one has it
pub lead_found : (ks : List Key) (n : ℕ) (x : Key) → n ≤ length ks → 0 < counted ks x n → (r : Option ℕ)
    → MatchOption r (AllWithin (λ y. same_key y x ≡ false) (take n ks) 0 (length (take n ks)))
    (λ j. (j < length (take n ks)) × HoldsAt (λ y. same_key y x ≡ true) (take n ks) j × AllWithin (λ y. same_key y x ≡ false) (take n ks) 0 j)
    → MatchOption r ⊥ (Lead ks n x)
lead_found ks n x l c None h = omega (arith, c, lead_none ks n x (λ k m. rw (sym (get_or-take n ks k no_key m)) (h k no_key (omega arith) (omega (arith, length-take n ks)))))
lead_found ks n x l c (Some j) h =
    let inside : j < n = omega (arith, h.0, length-take n ks) in
    record {
      within = inside;
      key = rw (sym (get_or-take n ks j no_key inside)) (h.1 no_key);
      first = λ k m. rw (sym (get_or-take n ks k no_key (omega arith))) (h.2 k no_key (omega arith) m);
    }

-- The groups that are led, in deck order of their leads.

-- after the first j deliveries: the members of groups led by them have their shares, the others' rows are still blank
pub record Leading (sources n : ℕ) (ms : List ℕ) (ks : List Key) (led : List ℕ) (es : List Running) (kept : List ℕ) (xs : List ℤ) (j : ℕ) (ys : List ℤ) : Type 0 where
  pub long : length ys ≡ length xs
  pub rows : (i k q : ℕ) → i < j → 0 < get_or led i 0 → k < n → member ks (key_at ks i) k ≡ true → q < sources * pair_width
      → cell_at ys (k * (sources * pair_width) + q) ≡ share_in ms ks (key_at ks i) (scheduled_in ms ks (key_at ks i) n) (amount_at es kept (i * 32)) k q
  pub blank : (k q : ℕ) → k < n → q < sources * pair_width → ((i : ℕ) → i < j → 0 < get_or led i 0 → member ks (key_at ks i) k ≡ false) → cell_at ys (k * (sources * pair_width) + q) ≡ pos 0
  pub beyond : (p : ℕ) → n * (sources * pair_width) ≤ p → cell_at ys p ≡ cell_at xs p

module _ (sources n : ℕ) (ms : List ℕ) (ks : List Key) (led : List ℕ) (es : List Running) (kept : List ℕ) (xs : List ℤ) (g : AllGiven sources n ms ks led es kept xs) where
  pub leading_none : Leading sources n ms ks led es kept xs 0 xs
  leading_none = record {
    long = refl;
    rows = λ i k q l. absurd (omega arith);
    blank = λ k q l m f. g.blank (k * (sources * pair_width) + q) (earlier k n (sources * pair_width) q l m);
    beyond = λ p l. refl;
  }

  pub leading_skip : (j : ℕ) (ys : List ℤ) → get_or led j 0 ≤ 0 → Leading sources n ms ks led es kept xs j ys → Leading sources n ms ks led es kept xs (j + 1) ys
  leading_skip j ys z s = record {
    long = s.long;
    rows = λ i k q l o. s.rows i k q (before i l o) o;
    blank = λ k q l m f. s.blank k q l m (λ i o. f i (omega arith));
    beyond = s.beyond;
  }
    where
      before : (i : ℕ) → i < j + 1 → 0 < get_or led i 0 → i < j
      before i l o = elim (dec_lt i j) [ yes y ↦ y | no y ↦ (let e : i ≡ j = omega arith in absurd (omega (arith, ap (λ (k : ℕ). get_or led k 0) e))) ]

  module _ (j : ℕ) (l : j < n) (some : 0 < get_or led j 0) where
    -- no member of its group is one of an earlier lead's
    apart : (i k : ℕ) → i < j → member ks (key_at ks j) k ≡ true → member ks (key_at ks i) k ≡ false
    apart i k m e = go (member ks (key_at ks i) k) refl
      where
        go : (b : Bool) → member ks (key_at ks i) k ≡ b → b ≡ false
        go true f =
            absurd (never (same_member (key_at ks i) (key_at ks j) (both_members ks (key_at ks i) (key_at ks j) k f e)) ((g.leads j l some).lead.first i m))
        go false f = refl

    pub leading_given : (t : ℕ) (ys : List ℤ) → t ≡ get_or led j 0 - 1 → Leading sources n ms ks led es kept xs j ys
        → RowsGiven (sources * pair_width) n ms ks (key_at ks j) t (amount_at es kept (j * 32)) ys
    leading_given t ys e s = record {
      mwhs = g.mwhs;
      narrow = omega (arith, g.few);
      room = omega (arith, g.room, s.long);
      sum = omega (arith, (g.leads j l some).sum);
      sizes_small = λ q m. told_small (state_at es (q / pair_width)) (get_or kept (j * 32 + q / pair_width) 0) (g.small (q / pair_width)) (g.low (j * 32 + q / pair_width)) (item_at (q % pair_width));
      blank = λ k q m f o. s.blank k q m o (λ i r x. apart i k r f);
    }

    pub leading_take : (t : ℕ) (ys zs : List ℤ) → t ≡ get_or led j 0 - 1 → Leading sources n ms ks led es kept xs j ys
        → RowsWritten (sources * pair_width) n ms ks (key_at ks j) t (amount_at es kept (j * 32)) ys zs → Leading sources n ms ks led es kept xs (j + 1) zs
    leading_take t ys zs e s r = record {
      long = r.long ∙ s.long;
      rows = λ i k q m o p f u. below_suc (λ i. 0 < get_or led i 0 → member ks (key_at ks i) k ≡ true
          → cell_at zs (k * (sources * pair_width) + q) ≡ share_in ms ks (key_at ks i) (scheduled_in ms ks (key_at ks i) n) (amount_at es kept (i * 32)) k q) j
          (λ i m o f. stays k q p u (other i k m f) ∙ s.rows i k q m o p f u)
          (λ o f. r.rows k q u p ∙ given k q (cell_at ys (k * (sources * pair_width) + q)) f)
          i (omega arith) o f;
      blank = λ k q m u f. stays k q m u (f j (omega arith) some) ∙ s.blank k q m u (λ i o. f i (omega arith));
      beyond = λ p m. r.beyond p m ∙ s.beyond p m;
    }
      where
        sum : t ≡ scheduled_in ms ks (key_at ks j) n
        sum = omega (arith, (g.leads j l some).sum)

        given : (k q : ℕ) (z : ℤ) → member ks (key_at ks j) k ≡ true
            → due_in ms ks (key_at ks j) t (amount_at es kept (j * 32)) k q z
            ≡ share_in ms ks (key_at ks j) (scheduled_in ms ks (key_at ks j) n) (amount_at es kept (j * 32)) k q
        given k q z f = rw (f, sum)

        stays : (k q : ℕ) → k < n → q < sources * pair_width → member ks (key_at ks j) k ≡ false → cell_at zs (k * (sources * pair_width) + q) ≡ cell_at ys (k * (sources * pair_width) + q)
        stays k q m u f = r.rows k q u m ∙ rw f

        other : (i k : ℕ) → i < j → member ks (key_at ks i) k ≡ true → member ks (key_at ks j) k ≡ false
        other i k m f = go (member ks (key_at ks j) k) refl
          where
            go : (b : Bool) → member ks (key_at ks j) k ≡ b → b ≡ false
            go true h = absurd (never f (apart i k m h))
            go false h = refl

  pub leading_all : (j : ℕ) (ys : List ℤ) → j ≤ n → n ≤ j → Leading sources n ms ks led es kept xs j ys → AllShared sources n ms ks led es kept xs ys
  leading_all j ys l m s = record {
    long = s.long;
    rows = λ i k q o. s.rows i k q (omega arith);
    beyond = s.beyond;
  }

-- In the hour's words.

-- delivery j leads its group of an hour, and has one more than its MWh beside it
pub record LeadsGroup (h : Hour) (ks : List Key) (led : List ℕ) (j : ℕ) : Type 0 where
  pub lead : Lead ks h.ndeliveries (key_at ks j) j
  pub sum : get_or led j 0 ≡ suc (scheduled h ks (key_at ks j) h.ndeliveries)

module _ (h : Hour) (ms : List ℕ) (m : MwhsOf h ms) (d : DeliveriesSmall h) (ks : List Key) (led : List ℕ) (es : List Running) (kept : List ℕ) (xs : List ℤ) where
  pub all_given : h.nsources ≤ 32 → h.ndeliveries * (h.nsources * pair_width) ≤ length xs → ((p : ℕ) → p < h.ndeliveries * (h.nsources * pair_width) → cell_at xs p ≡ pos 0)
      → ((j : ℕ) → j < h.ndeliveries → 0 < get_or led j 0 → LeadsGroup h ks led j) → ((i : ℕ) → Small (state_at es i)) → AllLow kept → AllGiven h.nsources h.ndeliveries ms ks led es kept xs
  all_given few room blank leads small low = record {
    mwhs = mwhs_small h ms m d;
    few = few;
    room = room;
    leads = λ j l o.
        let g = leads j l o in
        record { lead = g.lead; sum = omega (arith, g.sum, scheduled_in_lem h ms m ks (key_at ks j) h.ndeliveries (omega arith)) };
    small = small;
    low = low;
    blank = blank;
  }

  pub all_shared : (ys : List ℤ) → AllShared h.nsources h.ndeliveries ms ks led es kept xs ys → (j k i r : ℕ) → j < h.ndeliveries → 0 < get_or led j 0 → k < h.ndeliveries
      → member ks (key_at ks j) k ≡ true → i < h.nsources → r < pair_width → cell_at ys (pair_place h k i r) ≡ share h ks (key_at ks j) (told (state_at es i) (get_or kept (j * 32 + i) 0) (item_at r)) k
  all_shared ys s j k i r l o u e v w =
      s.rows j k (i * pair_width + r) l o u e (omega arith) ∙
      its_share (amount_at es kept (j * 32)) (i * pair_width + r) ∙ ap (λ (a : Amount). share h ks (key_at ks j) a k) (amount_told es kept (j * 32) i r w)
    where
      its_share : (a : ℕ → Amount) (q : ℕ) → share_in ms ks (key_at ks j) (scheduled_in ms ks (key_at ks j) h.ndeliveries) a k q ≡ share h ks (key_at ks j) (a q) k
      its_share a q =
          rw (scheduled_in_lem h ms m ks (key_at ks j) h.ndeliveries (omega arith), scheduled_in_lem h ms m ks (key_at ks j) k (omega arith), m.mwh k u)
          (sym (member_share h ks (key_at ks j) (a q) k e))
