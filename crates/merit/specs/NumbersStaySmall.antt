-- Where a plant's numbers are in document 01's ranges, a source's v and b stay at most 2,000, its level at most 4,000, and every W at most 10^14 grains.
use Rattle.std.specs.Prelude.{Bool, true, false, ◌&&◌, ◌≡◌, refl, ℕ, ◌+◌, ◌-◌, ◌*◌, ◌/◌, ◌≤◌, leb}
use Rattle.std.proofs.Common.{le_trans, mul-le-mul, arith, le-leb, leb-true}
use Rattle.laws.specs.Sums.{part_most}
use Rattle.merit.specs.ChangedFromB.{cost_grows, changed_is}
use Rattle.merit.specs.LevelNeverBelowB.{Sound, Took}
use Rattle.merit.specs.RemainderMoves.{Shift, down, up}
use Rattle.rules.specs.Group.{level, changed, charged, opened, headroom, headroom_of}
use Rattle.rules.specs.Units.{curve_cost, cost, generation}
use Rattle.rules.specs.Words.{when◌then◌else◌}
use Rattle.rules.specs.declared.HeatCurve.{HeatCurve}
use Rattle.rules.specs.declared.Plant.{Plant}
use Rattle.rules.specs.declared.Plant.TheVariants.{Unit as U, Purchase as P, Fixed as F}
use Rattle.rules.specs.declared.Running.{Running}
use Rattle.rules.specs.declared.Unit.{Unit}

pub record CurveSmall (curve : HeatCurve) : Type 0 where
  pub k : curve.k ≤ 2000
  pub a : curve.a ≤ 999_999
  pub b : curve.b ≤ 99_999
  pub c : curve.c ≤ 99
  pub r : curve.r ≤ 39_996

pub record UnitSmall (u : Unit) : Type 0 where
  pub g : u.g ≤ 2000
  pub h : u.h ≤ 2000
  pub curve : CurveSmall u.curve

abbrev pub PlantSmall : Plant → Type 0
PlantSmall (U u) = UnitSmall u
PlantSmall (P g rate) = (g ≤ 2000) × (rate ≤ 999_999)
PlantSmall (F g) = g ≤ 2000

-- costs

curve_small : (c : HeatCurve) → CurveSmall c → curve_cost c 4000 ≤ 100_000_000_000_000
unfolding curve_cost
curve_small c l =
    let k : c.k ≤ 4000 = omega (arith, l.k) in
    let x : 2 * c.a + 2 * c.b * 4000 + c.c * 4000 * 4000 ≤ 2_400_000_000 = omega (arith, l.a, l.b, l.c) in
    rw (le-leb c.k 4000 k) (omega (arith, mul-le-mul x l.r))

pub cost_small : (p : Plant) → PlantSmall p → (m : ℕ) → m ≤ 4000 → cost p m ≤ 100_000_000_000_000
cost_small (U u) l m h = le_trans (cost_grows (U u) m 4000 h) (curve_small u.curve l.curve)
cost_small (P g rate) l m h = omega (arith, mul-le-mul l.1 h)
cost_small (F g) l m h = omega arith

-- running states

pub record Small (s : Running) : Type 0 where
  pub plant : PlantSmall s.plant
  pub v : s.v ≤ 2000
  pub b : s.b ≤ 2000

pub level_small : (s : Running) → Sound s → Small s → level s ≤ 4000
level_small s g l = omega (arith, g.part, l.v, l.b)

pub changed_small : (s : Running) → Small s → (m : ℕ) → m ≤ 4000 → changed s m ≤ 100_000_000_000_000
changed_small s l m h = rw (changed_is s m) (go s.based (leb m s.b) refl)
  where
    go : (x y : Bool) → leb m s.b ≡ y → (when x && y then cost s.plant s.b * m / s.b else cost s.plant m) ≤ 100_000_000_000_000
    go true true e = le_trans (part_most (cost s.plant s.b) m s.b (leb-true m s.b e)) (cost_small s.plant l.plant s.b (omega (arith, l.b)))
    go true false e = cost_small s.plant l.plant m h
    go false y e = cost_small s.plant l.plant m h

pub charged_small : (s : Running) → Sound s → Small s → charged s ≤ 100_000_000_000_000
charged_small s g l = changed_small s l s.d (omega (arith, g.part, l.b))

pub opened_small : (p : Plant) → PlantSmall p → Small (opened p)
opened_small p l = record { plant = l; v = go p l; b = omega arith }
  where
    go : (p : Plant) → PlantSmall p → generation p ≤ 2000
    go (U u) l = l.g
    go (P g rate) l = l.0
    go (F g) l = l

-- D lines

pub took_small : (s t : Running) → Small s → Took s t → Small t
took_small s t l k = record { plant = rw k.plant l.plant; v = omega (arith, l.v, k.level, k.more); b = omega (arith, l.v, l.b, k.basic) }

-- a remainder
raised_small : (s : Running) → Small s → (t : ℕ) → t ≤ headroom s → s.v + t ≤ 2000
unfolding headroom
raised_small s l t h = go s.plant l.plant h
  where
    unit : (x : Bool) (a b : ℕ) → a ≤ 2000 → t ≤ (when x then a - b else 0) → s.v ≤ b → s.v + t ≤ 2000
    unit true a b y z w = omega (arith, l.v)
    unit false a b y z w = omega (arith, l.v)

    go : (p : Plant) → PlantSmall p → t ≤ headroom_of p s → s.v + t ≤ 2000
    go (U u) y z = unit (leb u.e (level s)) u.h (level s) y.h z (omega arith)
    go (P g rate) y z = omega (arith, l.v, y.0)
    go (F g) y z = omega (arith, l.v)

pub shift_small : {s u : Running} → Small s → Shift s u → Small u
shift_small {s} l (down t h) = record { plant = l.plant; v = omega (arith, l.v); b = l.b }
shift_small {s} l (up t h) = record { plant = l.plant; v = raised_small s l t h; b = l.b }
