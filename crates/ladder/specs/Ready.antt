-- A source that an engine may move: its state is sound and small, its plant's levels are in order, and a unit's level is at most 2,000.
use Rattle.std.specs.Prelude.{Bool, true, false, List, ◌≡◌, refl, ℕ, ◌+◌, ◌-◌, ◌*◌, ◌≤◌, ◌<◌, leb, length, set}
use Rattle.std.proofs.Common.{sym, ap, ◌∙◌, add-one, arith, length-set, get_or-set_same, get_or-set_other}
use Rattle.dispatch.specs.LinesOfPrices.{Numbers, Lined, line_price, unit_price, purchase_price, fixed_price, lined_as}
use Rattle.laws.specs.Sums.{below_suc}
use Rattle.merit.specs.ChangedFromB.{Starts}
use Rattle.merit.specs.LevelNeverBelowB.{Sound, opened_sound, state_at, Took, moved_sound}
use Rattle.merit.specs.NumbersStaySmall.{PlantSmall, Small, CurveSmall, opened_small, took_small, shift_small}
use Rattle.merit.specs.PricesRise.{price}
use Rattle.merit.specs.RemainderMoves.{Shift, down, up, shift_moved, room_open, remainder_moves}
use Rattle.rules.specs.Group.{no_running, opened, remainder, level, Rung, room, headroom, headroom_of, with_open, lowered, raised}
use Rattle.rules.specs.Refusals.{accepted}
use Rattle.rules.specs.Units.{levelled, generation}
use Rattle.rules.specs.Words.{when◌then◌else◌}
use Rattle.rules.specs.declared.HeatCurve.{HeatCurve}
use Rattle.rules.specs.declared.InternalSequence.{InternalSequence}
use Rattle.rules.specs.declared.Plant.{Plant}
use Rattle.rules.specs.declared.Plant.TheVariants.{Unit as U, Purchase as P, Fixed as F}
use Rattle.rules.specs.declared.Running.{Running}
use Rattle.rules.specs.declared.Unit.{Unit}

-- a level where it is a unit's; prices go by it there alone
abbrev pub unit_level : Plant → ℕ → ℕ
unit_level (U u) m = m
unit_level (P g rate) m = 0
unit_level (F g) m = 0

-- how far its price moves with each MWh
abbrev pub step_of : Plant → ℕ
step_of (U u) = 2 * u.curve.c * u.curve.r
step_of (P g rate) = 0
step_of (F g) = 0

pub record Ready (s : Running) : Type 0 where
  pub sound : Sound s
  pub small : Small s
  pub levels : levelled s.plant ≡ true
  pub high : unit_level s.plant (level s) ≤ 2000

-- a source may be moved by k: down, or up
abbrev pub Within : Bool → Running → ℕ → Type 0
Within false s k = k ≤ s.v
Within true s k = (s.v + k ≤ 2000) × (unit_level s.plant (level s + k) ≤ 2000)

abbrev pub shifted : Bool → Running → ℕ → Running
shifted false = lowered
shifted true = raised

-- all sources, blank entries too; the first n are an hour's
pub record AllReady (ss : List Running) (n : ℕ) : Type 0 where
  pub n_small : n ≤ 32
  pub ready : (i : ℕ) → Ready (state_at ss i)

-- of each source i of the first n, t i MWh may be moved
pub record AllWithin (up : Bool) (ss : List Running) (n : ℕ) (t : ℕ → ℕ) : Type 0 where
  pub all : AllReady ss n
  pub within : (i : ℕ) → i < n → Within up (state_at ss i) (t i)

-- they are moved, and the rest stays
pub record Shifted (up : Bool) (ss : List Running) (n : ℕ) (t : ℕ → ℕ) (us : List Running) : Type 0 where
  pub long : length us ≡ length ss
  pub inside : (i : ℕ) → i < n → state_at us i ≡ shifted up (state_at ss i) (t i)
  pub beyond : (i : ℕ) → n ≤ i → state_at us i ≡ state_at ss i

-- Lines.

pub curve_numbers : (c : HeatCurve) → CurveSmall c → Numbers c.b c.c c.r
curve_numbers c l = record { b_small = omega (arith, l.b); c_small = l.c; r_small = l.r }

-- of one price, any level will do
flat_down : (f : ℕ → ℕ) (x level level' one step cap : ℕ) → ((m : ℕ) → f m ≡ x) → Lined false f level one step cap → Lined false f level' one step cap
flat_down f x level level' one step cap h s = record {
  falls = s.falls;
  merits = λ k l. s.merits k l ∙ h (level - k) ∙ sym (h (level' - k));
  prices = λ k l. omega (arith, s.prices k l, h (level - k), h (level' - k));
}

flat_up : (f : ℕ → ℕ) (x level level' one step cap : ℕ) → ((m : ℕ) → f m ≡ x) → Lined true f level one step cap → Lined true f level' one step cap
flat_up f x level level' one step cap h s = record {
  falls = s.falls;
  merits = λ k l. omega (arith, s.merits k l, h (level + k + 1), h (level' + k + 1));
  prices = λ k l. omega (arith, s.prices k l, h (level + k + 1), h (level' + k + 1));
}

flat : (up : Bool) (f : ℕ → ℕ) (x level level' one step cap : ℕ) → ((m : ℕ) → f m ≡ x) → Lined up f level one step cap → Lined up f level' one step cap
flat false = flat_down
flat true = flat_up

module _ (up : Bool) {one step cap : ℕ} where
  pub unit_lined : (u : Unit) (level : ℕ) → Lined up (line_price u.curve.b u.curve.c u.curve.r) level one step cap → Lined up (price (U u)) level one step cap
  unit_lined u level = lined_as up _ (price (U u)) level one step cap (unit_price u)

  pub purchase_lined : (g rate level level' : ℕ) → Lined up (line_price (1000 * rate) 0 1) level one step cap → Lined up (price (P g rate)) level' one step cap
  purchase_lined g rate level level' s =
      flat up (price (P g rate)) (rate * 2000) level level' one step cap (λ m. refl) (lined_as up _ (price (P g rate)) level one step cap (purchase_price g rate) s)

  pub fixed_lined : (g level level' : ℕ) → Lined up (line_price 0 0 0) level one step cap → Lined up (price (F g)) level' one step cap
  fixed_lined g level level' s =
      flat up (price (F g)) 0 level level' one step cap (λ m. refl) (lined_as up _ (price (F g)) level one step cap (fixed_price g) s)

-- what an engine's line asks for, of each plant
module _ (s : Running) (cap : ℕ) (r : Ready s) where
  unit_numbers : (u : Unit) → s.plant ≡ U u → Numbers u.curve.b u.curve.c u.curve.r
  unit_numbers u e = let p : PlantSmall (U u) = rw e at r.small.plant in curve_numbers u.curve p.curve

  pub unit_down : (u : Unit) → s.plant ≡ U u → Within false s cap → Numbers u.curve.b u.curve.c u.curve.r × (cap ≤ s.v + s.d) × (s.v + s.d ≤ 2000)
  unit_down u e w = let h : unit_level (U u) (level s) ≤ 2000 = rw e at r.high in (unit_numbers u e, omega arith, h)

  pub unit_up : (u : Unit) → s.plant ≡ U u → Within true s cap → Numbers u.curve.b u.curve.c u.curve.r × (s.v + s.d + cap ≤ 2000)
  unit_up u e w = let h : unit_level (U u) (level s + cap) ≤ 2000 = rw e at w.1 in (unit_numbers u e, h)

  pub purchase_numbers : (g rate : ℕ) → s.plant ≡ P g rate → Numbers (1000 * rate) 0 1
  purchase_numbers g rate e =
      let p : PlantSmall (P g rate) = rw e at r.small.plant in
      record { b_small = omega (arith, p.1); c_small = omega arith; r_small = omega arith }

pub no_numbers : Numbers 0 0 0
no_numbers = record { b_small = omega arith; c_small = omega arith; r_small = omega arith }

-- The states, source by source.

module _ (up : Bool) (ss : List Running) (t : ℕ → ℕ) where
  pub shifted_none : Shifted up ss 0 t ss
  shifted_none = record { long = refl; inside = λ i l. absurd (omega arith); beyond = λ i l. refl }

  pub shifted_more : (n : ℕ) (us : List Running) (y : Running) → n < 32 → length ss ≡ 32 → Shifted up ss n t us → y ≡ shifted up (state_at us n) (t n) → Shifted up ss (n + 1) t (set us n y)
  shifted_more n us y l long s e = record {
    long = length-set us n y ∙ s.long;
    inside = rw (add-one n) (below_suc (λ i. state_at (set us n y) i ≡ shifted up (state_at ss i) (t i)) n
        (λ i m. get_or-set_other us n i y no_running (λ q. omega arith) ∙ s.inside i m)
        (get_or-set_same us n y no_running (omega (arith, s.long)) ∙ e ∙ ap (λ (x : Running). shifted up x (t n)) (s.beyond n (omega arith))));
    beyond = λ i m. get_or-set_other us n i y no_running (λ q. omega arith) ∙ s.beyond i (omega arith);
  }

  pub shifted_skip : (n : ℕ) (us : List Running) → t n ≡ 0 → Shifted up ss n t us → Shifted up ss (n + 1) t us
  shifted_skip n us z s = record {
    long = s.long;
    inside = rw (add-one n) (below_suc (λ i. state_at us i ≡ shifted up (state_at ss i) (t i)) n (λ i m. s.inside i m) (s.beyond n (omega arith) ∙ still up (state_at ss n) (t n) z));
    beyond = λ i m. s.beyond i (omega arith);
  }
    where
      still : (up : Bool) (x : Running) (k : ℕ) → k ≡ 0 → x ≡ shifted up x k
      still true x k e = ap (with_open x) (omega arith)
      still false x k e = ap (with_open x) (omega arith)

  pub shifted_all : (n i : ℕ) (us : List Running) → i ≤ n → n ≤ i → Shifted up ss i t us → Shifted up ss n t us
  shifted_all n i us l m s = let e : i ≡ n = omega arith in rw e at s

-- What keeps a source ready.

-- D lines keep its level
pub took_ready : (s t : Running) → Ready s → Took s t → Ready t
took_ready s t r k = record {
  sound = k.sound;
  small = took_small s t r.small k;
  levels = rw k.plant r.levels;
  high = rw (k.plant, k.level) r.high;
}

-- a rise of at most its headroom
pub raised_within : (s : Running) (k : ℕ) → Ready s → k ≤ headroom s → Within true s k
unfolding headroom
raised_within s k r h = ((shift_small r.small (up k h)).v, go s.plant r.small.plant r.high h)
  where
    unit : (x : Bool) (a b : ℕ) → a ≤ 2000 → b ≤ 2000 → k ≤ (when x then a - b else 0) → b + k ≤ 2000
    unit true a b y z w = omega arith
    unit false a b y z w = omega arith

    go : (p : Plant) → PlantSmall p → unit_level p (level s) ≤ 2000 → k ≤ headroom_of p s → unit_level p (level s + k) ≤ 2000
    go (U u) y z w = unit (leb u.e (level s)) u.h (level s) y.h z w
    go (P g rate) y z w = omega arith
    go (F g) y z w = omega arith

pub lowered_within : (x : Rung) (s : Running) (k : ℕ) → k ≤ room x s → Within false s k
lowered_within x s k h = omega (arith, room_open x s)

unit_less : (p : Plant) (m z : ℕ) → m ≤ z → unit_level p z ≤ 2000 → unit_level p m ≤ 2000
unit_less (U u) m z h l = omega arith
unit_less (P g rate) m z h l = omega arith
unit_less (F g) m z h l = omega arith

pub shift_ready : {s u : Running} → Ready s → Shift s u → Ready u
shift_ready {s} r (down t h) = record {
  sound = moved_sound _ _ r.sound (shift_moved r.sound (down t h));
  small = shift_small r.small (down t h);
  levels = r.levels;
  high = unit_less s.plant _ (level s) (omega arith) r.high;
}
shift_ready {s} r (up t h) = record {
  sound = moved_sound _ _ r.sound (shift_moved r.sound (up t h));
  small = shift_small r.small (up t h);
  levels = r.levels;
  high = let e : s.v + t + s.d ≡ level s + t = omega arith in rw e (raised_within s t r h).1;
}

-- a source at the hour's start
pub opened_ready : (p : Plant) → Starts p → PlantSmall p → levelled p ≡ true → Ready (opened p)
opened_ready p z l e = record { sound = opened_sound p z; small = opened_small p l; levels = e; high = unit_less p _ (generation p) (omega arith) (go p l) }
  where
    go : (p : Plant) → PlantSmall p → unit_level p (generation p) ≤ 2000
    go (U u) l = l.g
    go (P g rate) l = omega arith
    go (F g) l = omega arith

-- all sources after a remainder
pub remainder_ready : (number : InternalSequence) (n total took : ℕ) (ss us : List Running) → AllReady ss n → remainder number n total took ss ≡ accepted us → AllReady us n
remainder_ready number n total took ss us r e =
    record { n_small = r.n_small; ready = λ i. shift_ready (r.ready i) ((remainder_moves number n total took ss us e).each i) }
