-- The plain rule of document 01, one MWh at a time, has the outcome of any settled state: where t i MWh of each source i are moved, r in all, and each of
-- them goes before each that is left, they are what the rule has moved. One statement for every way; at closed prices it serves the rungs and credit.
use Rattle.std.specs.Prelude.{true, false, ◌≡◌, refl, length}
use mathlib.Core.List.{List}
use Rattle.std.proofs.Common.{inl, inr, sym, ap, ◌∙◌, arith, ltb-true, ltb-false, leb-true, leb-false, ext_get_or}
use Rattle.std.proofs.Math.Option.{Option, none, some}
use Prim.Native.Nat.{ℕ, zero, suc, ◌+◌, ◌-◌, ◌≤◌, ◌<◌}
use Rattle.std.proofs.Math.Decide.{dec_lt}
use Rattle.laws.specs.Sums.{sum_to_most}
use Rattle.merit.specs.Best.{Best}
use Rattle.merit.specs.LevelNeverBelowB.{state_at}
use Rattle.merit.specs.PlainMoves.{plain_beyond, plain_length, Found, next_found, Stepwise, Tracks, bumped, moved_by, tracks_room, plain_tracks, moved_by_sum, unloading_stepwise, crediting_stepwise}
use Rattle.merit.specs.PricesRise.{price}
use Rattle.merit.specs.Settled.{Strict, Less, More, Beats, beats_trans, BestUnit, bump, bump_same, bump_other, Plain, Falling, Settled, settled_one, plain_settled, plain_key}
use Rattle.rules.specs.Group.{no_running, level, Rung, top, following, Way, next, plain, unloading, crediting, all}
use Rattle.rules.specs.Words.{sum_to}
use Rattle.rules.specs.declared.Running.{Running}

-- a way that goes by a price, and moves MWh by MWh
pub record Ordered (better' first' : ℕ → ℕ → Type 0) (w : Way) (price_of : Running → ℕ) : Type 0 where
  pub stepwise : Stepwise w
  pub wins : (i j : ℕ) (s u : Running) → j < i → w.first s u ≡ true → Beats better' first' i (price_of s) j (price_of u)
  pub loses : (i j : ℕ) (s u : Running) → j < i → w.first s u ≡ false → Beats better' first' j (price_of u) i (price_of s)

module _ (better' first' : ℕ → ℕ → Type 0) (B : Strict better') (F : Strict first') (w : Way) (price_of : Running → ℕ) (O : Ordered better' first' w price_of) (n : ℕ) (ss : List Running) where
  abbrev cap : ℕ → ℕ
  cap i = w.room (state_at ss i)

  abbrev key : ℕ → ℕ → ℕ
  key i k = price_of (w.moved (state_at ss i) k)

  abbrev BeatsAt : List Running → ℕ → ℕ → Type 0
  BeatsAt us i j = Beats better' first' i (price_of (state_at us i)) j (price_of (state_at us j))

  -- the source found has the best next MWh
  found_best : (us : List Running) (t : ℕ → ℕ) → Tracks w.room w.moved ss us t → (a : ℕ) → Best (λ j. 0 < w.room (state_at us j)) (BeatsAt us) n a → BestUnit better' first' n cap key t n a
  found_best us t k a b =
      record {
        in_range = b.in_range;
        room = omega (arith, b.room, left a);
        wins = λ j l ne h. rw (← ap price_of (k.is a), ← ap price_of (k.is j)) (b.wins j l ne (omega (arith, left j)));
      }
    where
      left : (i : ℕ) → w.room (state_at us i) ≡ cap i - t i
      left = tracks_room w O.stepwise n ss us t k

  -- what the steps move is what is taken in order of merit
  pub plain_is : (r : ℕ) → r ≤ all w.room ss n → Plain better' first' n cap key r (moved_by w n ss r)
  unfolding moved_by
  plain_is zero h = Plain.start {t = λ i. 0} (λ i l. refl)
  plain_is (suc r) h =
      go (next w us n)
      (next_found w us (BeatsAt us)
      (λ i j k. beats_trans better' first' B F n cap key i (price_of (state_at us i)) j (price_of (state_at us j)) k (price_of (state_at us k)))
      (λ i j. O.wins i j (state_at us i) (state_at us j)) (λ i j. O.loses i j (state_at us i) (state_at us j)) n)
      (plain_is r (omega arith)) (moved_by_sum w O.stepwise n ss (suc r) h)
    where
      us : List Running
      us = plain w n ss r

      t : ℕ → ℕ
      t = moved_by w n ss r

      go : (o : Option ℕ) → Found w us (BeatsAt us) n o → Plain better' first' n cap key r t → sum_to (bumped o t) n ≡ suc r → Plain better' first' n cap key (suc r) (bumped o t)
      go none f p e = absurd (omega (arith, moved_by_sum w O.stepwise n ss r (omega arith)))
      go (some a) f p e =
          Plain.step {t = t} {t' = bump a t} p
          (record { at = a; best = found_best us t (plain_tracks w O.stepwise n ss r) a f; moved = bump_same a t; kept = λ j l ne. bump_other a t j ne })

  -- t is settled, at prices that may be given in another form, and r MWh in all
  module _ (closed : ℕ → ℕ → ℕ) (same : (i k : ℕ) → i < n → k < cap i → key i k ≡ closed i k) (fall : Falling better' first' n cap closed)
      (t : ℕ → ℕ) (s : Settled better' first' n cap closed t) (r : ℕ) (e : sum_to t n ≡ r) where
    settled_moved : (i : ℕ) → i < n → t i ≡ moved_by w n ss r i
    settled_moved i l =
        let h : r ≤ all w.room ss n = omega (arith, sum_to_most n t cap s.fits) in
        let p = plain_key better' first' n cap key closed same (plain_is r h) in
        settled_one better' first' B F n cap closed t (moved_by w n ss r) s (plain_settled better' first' B F n cap closed fall p)
        (e ∙ sym (moved_by_sum w O.stepwise n ss r h)) i l

    -- the rule's outcome, source by source
    pub settled_is : (i : ℕ) → i < n → state_at (plain w n ss r) i ≡ w.moved (state_at ss i) (t i)
    settled_is i l = rw (settled_moved i l) ((plain_tracks w O.stepwise n ss r).is i)

    -- and as a whole: the states with these MWh moved, and the rest as they were
    pub settled_whole : (us : List Running) → length us ≡ length ss → ((i : ℕ) → i < n → state_at us i ≡ w.moved (state_at ss i) (t i)) → ((i : ℕ) → n ≤ i → state_at us i ≡ state_at ss i) →
        us ≡ plain w n ss r
    settled_whole us same_length inside beyond =
        ext_get_or no_running us (plain w n ss r) (same_length ∙ sym (plain_length w n ss r))
        (λ i l. elim (dec_lt i n) [
          | yes m ↦ inside i m ∙ sym (settled_is i m)
          | no m ↦ beyond i (omega arith) ∙ sym (plain_beyond w O.stepwise n ss r i (omega arith))
        ])

-- unloading: the dearest, the earlier
pub unloading_ordered : (x : Rung) → Ordered More Less (unloading x) top
unloading_ordered x =
    record {
      stepwise = unloading_stepwise x;
      wins = λ i j s u l e. inl (ltb-true (top u) (top s) e);
      loses = λ i j s u l e. elim (dec_lt (top s) (top u)) [ yes m ↦ inl m | no m ↦ inr (omega (arith, ltb-false (top u) (top s) e), l) ];
    }

-- credit: the cheapest, the later
pub crediting_ordered : Ordered Less More crediting following
crediting_ordered =
    record {
      stepwise = crediting_stepwise;
      wins = λ i j s u l e. elim (dec_lt (following s) (following u)) [ yes m ↦ inl m | no m ↦ inr (omega (arith, leb-true (following s) (following u) e), l) ];
      loses = λ i j s u l e. inl (leb-false (following s) (following u) e);
    }

-- Closed prices.

-- the price of a source's k-th MWh from the top, and of its k-th above the level
abbrev pub price_down : List Running → ℕ → ℕ → ℕ
price_down ss i k = price (state_at ss i).plant (level (state_at ss i) - k)

abbrev pub price_up : List Running → ℕ → ℕ → ℕ
price_up ss i k = price (state_at ss i).plant (level (state_at ss i) + k + 1)
