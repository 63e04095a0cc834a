-- The plain rule, one MWh at a time, moves as many MWh in all as it is asked to where there is room, and of no source more than its room.
use Rattle.std.specs.Prelude.{Bool, ◌&&◌, List, ◌≡◌, leb, length}
use Rattle.std.proofs.Math.Bool.{true, false}
use Rattle.std.proofs.Math.Option.{Option, none, some}
use Rattle.std.proofs.Math.Path.{refl, sym, ap}
use Rattle.std.proofs.Common.{◌∙◌, length-set, get_or-set_same, get_or-set_other}
use Prim.Native.Nat.{ℕ, zero, suc, ◌+◌, ◌-◌, ◌≤◌, ◌<◌}
use Rattle.std.proofs.Math.Decide.{dec_lt, ℕ_discrete}
use native.Mathlib.Omega.{arith}
use borrow.Author.Tests.{ltb-true, ltb-false, leb-true, le-leb}
use Rattle.std.proofs.Math.Dec.{ltb}
use Rattle.std.proofs.Math.ListN.{get_or-eq_default}
use Rattle.laws.specs.Sums.{below_suc, sum_to_most, sum_to_zero, sum_to_but}
use Rattle.merit.specs.Best.{Best, best_skip, best_keep, best_take, best_only}
use Rattle.merit.specs.LevelNeverBelowB.{state_at}
use Rattle.merit.specs.Settled.{bump, bump_same, bump_other}
use Rattle.rules.specs.Group.{no_running, level, floor, Rung, normal, oil, emergency, last, room, headroom, headroom_of, with_open, lowered, raised, Way, unit_room, better, next, move, plain, unloading, last_step, crediting, all}
use Rattle.rules.specs.Units.{movable, is_unit}
use Rattle.rules.specs.Words.{when◌then◌else◌, sum_to}
use Rattle.rules.specs.declared.Plant.{Plant}
use Rattle.rules.specs.declared.Plant.TheVariants.{Unit as U, Purchase as P, Fixed as F}
use Rattle.rules.specs.declared.Running.{Running}

-- which source is found

abbrev pub Roomy : Way → List Running → ℕ → Type 0
Roomy w ss j = 0 < w.room (state_at ss j)

-- what the search among the first m has found, if `beats` is what the way's order means
abbrev pub Found : Way → List Running → (ℕ → ℕ → Type 0) → ℕ → Option ℕ → Type 0
Found w ss beats m none = (j : ℕ) → j < m → Roomy w ss j → ⊥
Found w ss beats m (some a) = Best (Roomy w ss) beats m a

module _ (w : Way) (ss : List Running) (beats : ℕ → ℕ → Type 0) (trans : (i j k : ℕ) → beats i j → beats j k → beats i k)
    (wins : (i j : ℕ) → j < i → w.first (state_at ss i) (state_at ss j) ≡ true → beats i j)
    (loses : (i j : ℕ) → j < i → w.first (state_at ss i) (state_at ss j) ≡ false → beats j i) where
  better_found : (m : ℕ) (o : Option ℕ) → Found w ss beats m o → Found w ss beats (suc m) (better w ss m o)
  unfolding better
  better_found m none h = go (ltb 0 (w.room (state_at ss m))) refl
    where
      go : (x : Bool) → ltb 0 (w.room (state_at ss m)) ≡ x → Found w ss beats (suc m) (when x then some m else none)
      go true e = best_only h (ltb-true _ _ e)
      go false e = below_suc (λ j. Roomy w ss j → ⊥) m h (λ l. omega (arith, ltb-false 0 (w.room (state_at ss m)) e))
  better_found m (some a) h = go (ltb 0 (w.room (state_at ss m))) refl (w.first (state_at ss m) (state_at ss a)) refl
    where
      go : (x : Bool) → ltb 0 (w.room (state_at ss m)) ≡ x → (y : Bool) → w.first (state_at ss m) (state_at ss a) ≡ y → Found w ss beats (suc m) (when x && y then some m else some a)
      go true e true f = best_take trans h (ltb-true _ _ e) (wins m a h.in_range f)
      go true e false f = best_keep h (loses m a h.in_range f)
      go false e y f = best_skip h (λ l. omega (arith, ltb-false 0 (w.room (state_at ss m)) e))

  pub next_found : (m : ℕ) → Found w ss beats m (next w ss m)
  unfolding next
  next_found zero = λ j l. absurd (omega arith)
  next_found (suc m) = better_found m (next w ss m) (next_found m)

-- in any order at all: one with room, if there is one
pub next_roomy : (w : Way) (ss : List Running) (m : ℕ) → Found w ss (λ i j. Unit) m (next w ss m)
next_roomy w ss m = next_found w ss (λ i j. Unit) (λ i j k a b. tt) (λ i j l e. tt) (λ i j l e. tt) m

-- what it moves

-- a way that moves MWh by MWh and uses up room
pub record Stepwise (w : Way) : Type 0 where
  pub none : (s : Running) → w.moved s 0 ≡ s
  pub more : (s : Running) (k : ℕ) → w.moved (w.moved s k) 1 ≡ w.moved s (suc k)
  pub room : (s : Running) (k : ℕ) → k ≤ w.room s → w.room (w.moved s k) ≡ w.room s - k
  pub blank : w.room no_running ≡ 0

-- us is ss with t i MWh of each source i moved, within its room
pub record Tracks (room : Running → ℕ) (moved : Running → ℕ → Running) (ss us : List Running) (t : ℕ → ℕ) : Type 0 where
  pub is : (i : ℕ) → state_at us i ≡ moved (state_at ss i) (t i)
  pub fits : (i : ℕ) → t i ≤ room (state_at ss i)

-- one more of the source found
abbrev pub bumped : Option ℕ → (ℕ → ℕ) → ℕ → ℕ
bumped none t = t
bumped (some a) t = bump a t

-- how many MWh of each source r steps have moved
unfoldable pub moved_by : Way → ℕ → List Running → ℕ → ℕ → ℕ
moved_by w n ss zero = λ i. 0
moved_by w n ss (suc r) = bumped (next w (plain w n ss r) n) (moved_by w n ss r)

module _ (w : Way) (S : Stepwise w) (n : ℕ) (ss : List Running) where
  pub tracks_room : (us : List Running) (t : ℕ → ℕ) → Tracks w.room w.moved ss us t → (i : ℕ) → w.room (state_at us i) ≡ w.room (state_at ss i) - t i
  tracks_room us t k i = ap w.room (k.is i) ∙ S.room (state_at ss i) (t i) (k.fits i)

  -- a source with room is there
  pub roomy_there : (us : List Running) (a : ℕ) → Roomy w us a → a < length us
  roomy_there us a h = elim (dec_lt a (length us)) [
    | yes l ↦ l
    | no l ↦ absurd (omega (arith, ap w.room (get_or-eq_default us no_running {n = a} (omega arith)), S.blank))
  ]

  move_tracks : (us : List Running) (t : ℕ → ℕ) → Tracks w.room w.moved ss us t → (o : Option ℕ) → Found w us (λ i j. Unit) n o → Tracks w.room w.moved ss (move w us o) (bumped o t)
  unfolding move
  move_tracks us t k none f = k
  move_tracks us t k (some a) f =
      record {
        is = λ i. elim (ℕ_discrete i a) [
          | yes e ↦ rw (e, bump_same a t) (get_or-set_same us a _ no_running (roomy_there us a f.room) ∙ ap (λ (x : Running). w.moved x 1) (k.is a) ∙ S.more (state_at ss a) (t a))
          | no e ↦ rw (bump_other a t i e) (get_or-set_other us a i _ no_running e ∙ k.is i)
        ];
        fits = λ i. elim (ℕ_discrete i a) [
          | yes e ↦ rw (e, bump_same a t) (omega (arith, f.room, tracks_room us t k a))
          | no e ↦ rw (bump_other a t i e) (k.fits i)
        ];
      }

  pub plain_tracks : (r : ℕ) → Tracks w.room w.moved ss (plain w n ss r) (moved_by w n ss r)
  unfolding plain moved_by
  plain_tracks zero = record { is = λ i. sym (S.none (state_at ss i)); fits = λ i. omega arith }
  plain_tracks (suc r) = move_tracks (plain w n ss r) (moved_by w n ss r) (plain_tracks r) (next w (plain w n ss r) n) (next_roomy w (plain w n ss r) n)

  bumped_sum : (us : List Running) (t : ℕ → ℕ) → Tracks w.room w.moved ss us t → (o : Option ℕ) → Found w us (λ i j. Unit) n o → sum_to t n < all w.room ss n → sum_to (bumped o t) n ≡ suc (sum_to t n)
  bumped_sum us t k none f h =
      absurd (omega (
        arith,
        sum_to_most n (λ i. w.room (state_at ss i)) t (λ i l. elim (dec_lt (t i) (w.room (state_at ss i))) [
          | yes m ↦ absurd (f i l (omega (arith, tracks_room us t k i)))
          | no m ↦ omega arith
        ]),
      ))
  bumped_sum us t k (some a) f h = omega (arith, sum_to_but n t (bump a t) a f.in_range (λ j l ne. bump_other a t j ne), bump_same a t)

  pub moved_by_sum : (r : ℕ) → r ≤ all w.room ss n → sum_to (moved_by w n ss r) n ≡ r
  unfolding moved_by
  moved_by_sum zero h = sum_to_zero n (λ i. 0) (λ i l. refl)
  moved_by_sum (suc r) h =
      let e = moved_by_sum r (omega arith) in
      bumped_sum (plain w n ss r) (moved_by w n ss r) (plain_tracks r) (next w (plain w n ss r) n) (next_roomy w (plain w n ss r) n) (omega arith) ∙ ap suc e

  -- past the first n nothing is moved
  moved_by_beyond : (r i : ℕ) → n ≤ i → moved_by w n ss r i ≡ 0
  unfolding moved_by
  moved_by_beyond zero i h = refl
  moved_by_beyond (suc r) i h = go (next w (plain w n ss r) n) (next_roomy w (plain w n ss r) n) (moved_by_beyond r i h)
    where
      go : (o : Option ℕ) → Found w (plain w n ss r) (λ i j. Unit) n o → moved_by w n ss r i ≡ 0 → bumped o (moved_by w n ss r) i ≡ 0
      go none f e = e
      go (some a) f e = bump_other a (moved_by w n ss r) i (λ q. omega (arith, f.in_range)) ∙ e

  pub plain_beyond : (r i : ℕ) → n ≤ i → state_at (plain w n ss r) i ≡ state_at ss i
  plain_beyond r i h = (plain_tracks r).is i ∙ ap (w.moved (state_at ss i)) (moved_by_beyond r i h) ∙ S.none (state_at ss i)

pub move_length : (w : Way) (ss : List Running) (o : Option ℕ) → length (move w ss o) ≡ length ss
unfolding move
move_length w ss none = refl
move_length w ss (some a) = length-set ss a (w.moved (state_at ss a) 1)

pub plain_length : (w : Way) (n : ℕ) (ss : List Running) (r : ℕ) → length (plain w n ss r) ≡ length ss
unfolding plain
plain_length w n ss zero = refl
plain_length w n ss (suc r) = move_length w (plain w n ss r) (next w (plain w n ss r) n) ∙ plain_length w n ss r

-- the three ways

pub lowered_room : (x : Rung) (s : Running) (k : ℕ) → room x (lowered s k) ≡ room x s - k
unfolding room
lowered_room x s k = go x (movable s.plant)
  where
    go : (x : Rung) (m : Bool) → (when m then s.v - k - floor x (lowered s k) else 0) ≡ (when m then s.v - floor x s else 0) - k
    go normal true = omega arith
    go oil true = omega arith
    go emergency true = omega arith
    go last true = omega arith
    go x false = omega arith

blank_room : (x : Rung) → room x no_running ≡ 0
unfolding room
blank_room x = omega arith

pub unloading_stepwise : (x : Rung) → Stepwise (unloading x)
unloading_stepwise x =
    record {
      none = λ s. ap (with_open s) (omega arith);
      more = λ s k. ap (with_open s) (omega arith);
      room = λ s k h. lowered_room x s k;
      blank = blank_room x;
    }

pub unit_room_most : (s : Running) → unit_room s ≤ room last s
unfolding unit_room
unit_room_most s = go (is_unit s.plant)
  where
    go : (b : Bool) → (when b then room last s else 0) ≤ room last s
    go true = omega arith
    go false = omega arith

pub lowered_unit_room : (s : Running) (k : ℕ) → unit_room (lowered s k) ≡ unit_room s - k
unfolding unit_room
lowered_unit_room s k = rw (lowered_room last s k) (go (is_unit s.plant))
  where
    go : (b : Bool) → (when b then room last s - k else 0) ≡ (when b then room last s else 0) - k
    go true = refl
    go false = omega arith

pub last_stepwise : Stepwise last_step
last_stepwise =
    record {
      none = λ s. ap (with_open s) (omega arith);
      more = λ s k. ap (with_open s) (omega arith);
      room = λ s k h. lowered_unit_room s k;
      blank = omega (arith, unit_room_most no_running, blank_room last);
    }

pub crediting_stepwise : Stepwise crediting
unfolding headroom
crediting_stepwise =
    record {
      none = λ s. ap (with_open s) (omega arith);
      more = λ s k. ap (with_open s) (omega arith);
      room = λ s k h. raised_room s.plant s k h;
      blank = refl;
    }
  where
    unit : (e h l k : ℕ) (y : Bool) → leb e l ≡ y → k ≤ (when y then h - l else 0) → (when leb e (l + k) then h - (l + k) else 0) ≡ (when y then h - l else 0) - k
    unit e h l k true q m = let z = leb-true e l q in rw (le-leb e (l + k) (omega arith)) (omega arith)
    unit e h l k false q m = let z : l + k ≡ l = omega arith in rw (z, q) (omega arith)

    raised_room : (p : Plant) (s : Running) (k : ℕ) → k ≤ headroom_of p s → headroom_of p (raised s k) ≡ headroom_of p s - k
    raised_room (U u) s k h = let z : s.v + k + s.d ≡ level s + k = omega arith in rw z (unit u.e u.h (level s) k (leb u.e (level s)) refl h)
    raised_room (P g rate) s k h = omega arith
    raised_room (F g) s k h = omega arith
