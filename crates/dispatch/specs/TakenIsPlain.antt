-- What an engine takes, of the lines of running sources, is what the plain rule of document 01 moves: by merit's `unload_whole` and `credit_whole`.
use Rattle.std.specs.Prelude.{Bool, true, false, List, ◌≡◌, ℕ, ◌+◌, ◌-◌, ◌^◌, ◌≤◌, ◌<◌, length, set}
use Rattle.std.proofs.Common.{◌∙◌, add-one, arith, length-set, get_or-set_same, get_or-set_other}
use Rattle.dispatch.specs.LinesOfPrices.{Lined}
use Rattle.dispatch.specs.Taken.{merit, Sources, Taken}
use Rattle.laws.specs.Sums.{below_suc}
use Rattle.cutoff.specs.Lines.{lanes, at}
use Rattle.merit.specs.LevelNeverBelowB.{Sound, state_at}
use Rattle.merit.specs.PlainIsSettled.{price_down, price_up}
use Rattle.merit.proofs.PlainIsSettled.{unload_whole, credit_whole}
use Rattle.merit.specs.PricesRise.{price}
use Rattle.merit.specs.Settled.{Less, More, Settled, settled_key, settled_flip}
use Rattle.rules.specs.Group.{level, Rung, last, room, headroom, lowered, raised, plain, unloading, crediting}
use Rattle.rules.specs.Units.{levelled}
use Rattle.rules.specs.declared.Running.{Running}

-- the three lists hold the lines of the first n running sources, each with its room
pub record LinesOf (up : Bool) (room_of : Running → ℕ) (ss : List Running) (one step cap : List ℕ) (n : ℕ) : Type 0 where
  pub long_one : length one ≡ lanes
  pub long_step : length step ≡ lanes
  pub long_cap : length cap ≡ lanes
  pub lined : (i : ℕ) → i < n → Lined up (price (state_at ss i).plant) (level (state_at ss i)) (at one i) (at step i) (at cap i)
  pub rooms : (i : ℕ) → i < n → at cap i ≡ room_of (state_at ss i)

module _ {up : Bool} {room_of : Running → ℕ} {ss : List Running} where
  module _ {one step cap : List ℕ} {n : ℕ} (s : LinesOf up room_of ss one step cap n) where
    -- one source more
    pub lines_more : {o d x : ℕ} → n < lanes → Lined up (price (state_at ss n).plant) (level (state_at ss n)) o d x → x ≡ room_of (state_at ss n) → LinesOf up room_of ss (set one n o) (set step n d) (set cap n x) (n + 1)
    lines_more {o} {d} {x} l new here = record {
      long_one = length-set one n o ∙ s.long_one;
      long_step = length-set step n d ∙ s.long_step;
      long_cap = length-set cap n x ∙ s.long_cap;
      lined = rw (add-one n) (below_suc (λ i. Lined up (price (state_at ss i).plant) (level (state_at ss i)) (at (set one n o) i) (at (set step n d) i) (at (set cap n x) i)) n
          (λ i m. rw (kept one o i m, kept step d i m, kept cap x i m) (s.lined i m))
          (rw (put one o s.long_one, put step d s.long_step, put cap x s.long_cap) new));
      rooms = rw (add-one n) (below_suc (λ i. at (set cap n x) i ≡ room_of (state_at ss i)) n (λ i m. kept cap x i m ∙ s.rooms i m) (put cap x s.long_cap ∙ here));
    }
      where
        put : (xs : List ℕ) (y : ℕ) → length xs ≡ lanes → at (set xs n y) n ≡ y
        put xs y e = get_or-set_same xs n y 0 (omega arith)

        kept : (xs : List ℕ) (y i : ℕ) → i < n → at (set xs n y) i ≡ at xs i
        kept xs y i m = get_or-set_other xs n i y 0 (λ e. omega arith)

    pub lines_sources : n ≤ lanes → Sources one step cap n
    lines_sources h = record { n_small = h; falls = λ i l. (s.lined i l).falls }

-- the same room in other words
settled_room : (better first : ℕ → ℕ → Type 0) (n : ℕ) (cap cap' : ℕ → ℕ) (key : ℕ → ℕ → ℕ) (t : ℕ → ℕ) → ((i : ℕ) → i < n → cap i ≡ cap' i) → Settled better first n cap key t → Settled better first n cap' key t
settled_room better first n cap cap' key t h s = record {
  fits = λ i l. omega (arith, h i l, s.fits i l);
  order = λ i j k l a b ne x y z. s.order i j k l a b ne x y (omega (arith, h j b));
}

module _ {ss : List Running} {one step cap : List ℕ} {n r : ℕ} {t : List ℕ} where
  pub taken_unloads : (x : Rung) → LinesOf false (room x) ss one step cap n → Taken false one step cap n r t → Settled More Less n (λ i. room x (state_at ss i)) (price_down ss) (at t)
  taken_unloads x s a =
      settled_room More Less n (at cap) (λ i. room x (state_at ss i)) (price_down ss) (at t) s.rooms
      (settled_key More Less n (at cap) (merit one step) (price_down ss) (λ i k l m. (s.lined i l).merits k m) a.settled)

  pub taken_credits : LinesOf true headroom ss one step cap n → Taken true one step cap n r t → Settled Less More n (λ i. headroom (state_at ss i)) (price_up ss) (at t)
  taken_credits s a =
      settled_room Less More n (at cap) (λ i. headroom (state_at ss i)) (price_up ss) (at t) s.rooms
      (settled_flip More n (at cap) (price_up ss) (2 ^ 48) (λ i k l m. (s.lined i l).prices k m)
      (settled_key More More n (at cap) (merit one step) (λ i k. 2 ^ 48 - price_up ss i k) (λ i k l m. (s.lined i l).merits k m) a.settled))

-- So the states with these MWh moved, and the rest as they were, are what the plain rule gives.
module _ (n : ℕ) (ss : List Running) (sound : (i : ℕ) → i < n → Sound (state_at ss i)) (levels : (i : ℕ) → i < n → levelled (state_at ss i).plant ≡ true) where
  pub unload_is_plain : (x : Rung) → (x ≡ last → ⊥) → {one step cap : List ℕ} {r : ℕ} {t : List ℕ} → LinesOf false (room x) ss one step cap n → Taken false one step cap n r t →
      (us : List Running) → length us ≡ length ss → ((i : ℕ) → i < n → state_at us i ≡ lowered (state_at ss i) (at t i)) → ((i : ℕ) → n ≤ i → state_at us i ≡ state_at ss i) → us ≡ plain (unloading x) n ss r
  unload_is_plain x nl {r = r} {t = t} s a = unload_whole n ss sound levels (at t) r a.adds x nl (taken_unloads x s a)

  pub credit_is_plain : {one step cap : List ℕ} {r : ℕ} {t : List ℕ} → LinesOf true headroom ss one step cap n → Taken true one step cap n r t →
      (us : List Running) → length us ≡ length ss → ((i : ℕ) → i < n → state_at us i ≡ raised (state_at ss i) (at t i)) → ((i : ℕ) → n ≤ i → state_at us i ≡ state_at ss i) → us ≡ plain crediting n ss r
  credit_is_plain {r = r} {t = t} s a = credit_whole n ss sound levels (at t) r a.adds (taken_credits s a)
