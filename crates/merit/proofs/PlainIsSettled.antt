-- The plain rule has the outcome of any settled state at closed prices: for each rung of unloading but the last, and for credit.
use Rattle.std.specs.Prelude.{Bool, true, false, ◌&&◌, ◌≡◌, refl, leb, length}
use mathlib.Core.List.{List}
use Rattle.std.proofs.Common.{le_trans, arith, leb-true}
use Prim.Native.Nat.{ℕ, ◌+◌, ◌-◌, ◌≤◌, ◌<◌}
use Rattle.laws.specs.Choices.{both_true}
use Rattle.merit.specs.LevelNeverBelowB.{Sound, state_at}
use Rattle.merit.specs.PricesRise.{price, curve_start, price_rises}
use Rattle.merit.proofs.PricesRise.{changed_step, changed_top}
use Rattle.merit.specs.Settled.{Less, More, less_strict, more_strict, Falling, Settled}
use Rattle.rules.specs.Group.{level, floor, Rung, normal, oil, emergency, last, room, headroom, headroom_of, top, following, lowered, raised, plain, unloading, crediting}
use Rattle.rules.specs.Units.{levelled, emergency_low, oil_low, normal_low, movable}
use Rattle.rules.specs.Words.{when◌then◌else◌, sum_to}
use Rattle.rules.specs.declared.Plant.{Plant}
use Rattle.rules.specs.declared.Plant.TheVariants.{Unit as U, Purchase as P, Fixed as F}
use Rattle.rules.specs.declared.Running.{Running}
use Rattle.merit.specs.PlainIsSettled.{settled_is, settled_whole, unloading_ordered, crediting_ordered, price_down, price_up}

record Levels (p : Plant) : Type 0 where
  emergency : curve_start p ≤ emergency_low p
  oil : emergency_low p ≤ oil_low p
  normal : oil_low p ≤ normal_low p

levels_of : (p : Plant) → levelled p ≡ true → Levels p
levels_of (U u) e =
    let a = (both_true (leb u.curve.k u.e && leb u.e u.o && leb u.o u.n && leb u.n u.g) (leb u.g u.h) e).0 in
    let b = (both_true (leb u.curve.k u.e && leb u.e u.o && leb u.o u.n) (leb u.n u.g) a).0 in
    let c = both_true (leb u.curve.k u.e && leb u.e u.o) (leb u.o u.n) b in
    let d = both_true (leb u.curve.k u.e) (leb u.e u.o) c.0 in
    record { emergency = leb-true u.curve.k u.e d.0; oil = leb-true u.e u.o d.1; normal = leb-true u.o u.n c.1 }
levels_of (P g rate) e = record { emergency = omega arith; oil = omega arith; normal = omega arith }
levels_of (F g) e = record { emergency = omega arith; oil = omega arith; normal = omega arith }

-- the floors of each rung but the last are at or above b and the curve's start
floor_over : (x : Rung) → (x ≡ last → ⊥) → (s : Running) → Sound s → Levels s.plant → (j : ℕ) → j < s.v - floor x s → (s.b < s.v - j + s.d) × (curve_start s.plant < s.v - j + s.d)
floor_over normal n s g p j h = (omega (arith, g.part), omega (arith, g.part, p.emergency, p.oil, p.normal))
floor_over oil n s g p j h = (omega (arith, g.part), omega (arith, g.part, p.emergency, p.oil))
floor_over emergency n s g p j h = (omega (arith, g.part), omega (arith, g.part, p.emergency))
floor_over last n s g p j h = absurd (n refl)

room_over : (x : Rung) (s : Running) (j : ℕ) → j < room x s → j < s.v - floor x s
unfolding room
room_over x s j = go (movable s.plant)
  where
    go : (m : Bool) → j < (when m then s.v - floor x s else 0) → j < s.v - floor x s
    go true h = h
    go false h = absurd (omega arith)

-- the top MWh of a source lowered by j
pub top_price : (x : Rung) → (x ≡ last → ⊥) → (s : Running) → Sound s → levelled s.plant ≡ true → (j : ℕ) → j < room x s → top (lowered s j) ≡ price s.plant (level s - j)
top_price x n s g p j h =
    let r = room_over x s j h in
    let f = floor_over x n s g (levels_of s.plant p) j r in
    let k : level s - j ≡ s.v - j + s.d = omega (arith, r) in
    rw k (changed_top (lowered s j) g.starts (s.v - j + s.d) f.0 f.1)

-- a unit that may rise stands at or above its emergency low, so at or above its curve's start
headroom_over : (s : Running) → levelled s.plant ≡ true → 0 < headroom s → curve_start s.plant ≤ level s
unfolding headroom
headroom_over s = go s.plant
  where
    unit : (e h l : ℕ) (y : Bool) → leb e l ≡ y → 0 < (when y then h - l else 0) → e ≤ l
    unit e h l true q m = leb-true e l q
    unit e h l false q m = absurd (omega arith)

    go : (p : Plant) → levelled p ≡ true → 0 < headroom_of p s → curve_start p ≤ level s
    go (U u) v h = le_trans (levels_of (U u) v).emergency (unit u.e u.h (level s) (leb u.e (level s)) refl h)
    go (P g rate) v h = omega arith
    go (F g) v h = omega arith

-- the next MWh of a source raised by j
pub following_price : (s : Running) → Sound s → levelled s.plant ≡ true → (j : ℕ) → j < headroom s → following (raised s j) ≡ price s.plant (level s + j + 1)
following_price s g p j h =
    let k : s.v + j + s.d ≡ level s + j = omega arith in
    let o = headroom_over s p (omega arith) in
    rw k (omega (arith, changed_step (raised s j) g.starts (level s + j) (omega (arith, g.above)) (omega (arith, o))))

module _ (n : ℕ) (ss : List Running) (sound : (i : ℕ) → i < n → Sound (state_at ss i)) (levels : (i : ℕ) → i < n → levelled (state_at ss i).plant ≡ true) (t : ℕ → ℕ) (r : ℕ) (e : sum_to t n ≡ r) where
  module _ (x : Rung) (nl : x ≡ last → ⊥) (s : Settled More Less n (λ i. room x (state_at ss i)) (price_down ss) t) where
    down_same : (i k : ℕ) → i < n → k < room x (state_at ss i) → top (lowered (state_at ss i) k) ≡ price_down ss i k
    down_same i k l h = top_price x nl (state_at ss i) (sound i l) (levels i l) k h

    down_falling : Falling More Less n (λ i. room x (state_at ss i)) (price_down ss)
    down_falling i k l h kl lc m = omega (arith, price_rises (state_at ss i).plant (level (state_at ss i) - l) (level (state_at ss i) - k) (omega arith))

    pub unload_settled : (i : ℕ) → i < n → state_at (plain (unloading x) n ss r) i ≡ lowered (state_at ss i) (t i)
    unload_settled =
        settled_is More Less more_strict less_strict (unloading x) top (unloading_ordered x) n ss (price_down ss) down_same down_falling t s r e

    pub unload_whole : (us : List Running) → length us ≡ length ss → ((i : ℕ) → i < n → state_at us i ≡ lowered (state_at ss i) (t i)) → ((i : ℕ) → n ≤ i → state_at us i ≡ state_at ss i) →
        us ≡ plain (unloading x) n ss r
    unload_whole =
        settled_whole More Less more_strict less_strict (unloading x) top (unloading_ordered x) n ss (price_down ss) down_same down_falling t s r e

  module _ (s : Settled Less More n (λ i. headroom (state_at ss i)) (price_up ss) t) where
    up_same : (i k : ℕ) → i < n → k < headroom (state_at ss i) → following (raised (state_at ss i) k) ≡ price_up ss i k
    up_same i k l h = following_price (state_at ss i) (sound i l) (levels i l) k h

    up_falling : Falling Less More n (λ i. headroom (state_at ss i)) (price_up ss)
    up_falling i k l h kl lc m = omega (arith, price_rises (state_at ss i).plant (level (state_at ss i) + k + 1) (level (state_at ss i) + l + 1) (omega arith))

    pub credit_settled : (i : ℕ) → i < n → state_at (plain crediting n ss r) i ≡ raised (state_at ss i) (t i)
    credit_settled =
        settled_is Less More less_strict more_strict crediting following crediting_ordered n ss (price_up ss) up_same up_falling t s r e

    pub credit_whole : (us : List Running) → length us ≡ length ss → ((i : ℕ) → i < n → state_at us i ≡ raised (state_at ss i) (t i)) → ((i : ℕ) → n ≤ i → state_at us i ≡ state_at ss i) →
        us ≡ plain crediting n ss r
    credit_whole =
        settled_whole Less More less_strict more_strict crediting following crediting_ordered n ss (price_up ss) up_same up_falling t s r e
