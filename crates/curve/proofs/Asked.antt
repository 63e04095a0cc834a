-- A cost that is asked for, by the tests of the curve and the level.
use Rattle.std.specs.Prelude.{Ok, Err}
use mathlib.Core.Bool.{Bool, true, false, not, ◌&&◌}
use mathlib.Core.Path.{◌≡◌, refl}
use Prim.Native.Nat.{ℕ, ◌≤◌, ◌<◌}
use native.Mathlib.Omega.{arith}
use borrow.Author.Tests.{le-leb, lt-leb, leb-true}
use lib.Dec.{leb}
use Rattle.laws.specs.Choices.{both_true}
use Rattle.merit.specs.NumbersStaySmall.{CurveSmall}
use Rattle.rules.specs.Answers.{answer_of}
use Rattle.rules.specs.Ranges.{Range, inside, unit_level, coefficient_a, coefficient_b, coefficient_c, heat_rate}
use Rattle.rules.specs.Refusals.{accepted, refuse}
use Rattle.rules.specs.Units.{curve_cost, curve_inside, cost_asked}
use Rattle.rules.specs.declared.HeatCurve.{HeatCurve}
use Rattle.rules.specs.declared.Refusal.TheVariants.{Range as RangeAt}

at_most : (x : Range) (v : ℕ) → inside x v ≡ true → v ≤ x.most
at_most x v e = leb-true v x.most (both_true (leb x.least v) (leb v x.most) e).1

pub inside_small : (c : HeatCurve) → curve_inside c ≡ true → CurveSmall c
inside_small c e =
    let ka = inside unit_level c.k && inside coefficient_a c.a in
    let kab = ka && inside coefficient_b c.b in
    let p = both_true (kab && inside coefficient_c c.c) (inside heat_rate c.r) e in
    let q = both_true kab (inside coefficient_c c.c) p.0 in
    let s = both_true ka (inside coefficient_b c.b) q.0 in
    let t = both_true (inside unit_level c.k) (inside coefficient_a c.a) s.0 in
    record {
      k = at_most unit_level c.k t.0;
      a = at_most coefficient_a c.a t.1;
      b = at_most coefficient_b c.b s.1;
      c = at_most coefficient_c c.c q.1;
      r = at_most heat_rate c.r p.1;
    }

module _ (c : HeatCurve) (m : ℕ) where
  pub asked_outside : curve_inside c ≡ false → Err (RangeAt 0) ≡ answer_of (cost_asked c m)
  asked_outside e = rw e

  pub asked_high : 2000 < m → Err (RangeAt 0) ≡ answer_of (cost_asked c m)
  asked_high h = rw (lt-leb m 2000 h) (go (curve_inside c) (leb 0 m))
    where
      go : (b d : Bool) → Err (RangeAt 0) ≡ answer_of (refuse (not (b && (d && false))) (RangeAt 0) (accepted (curve_cost c m)))
      go true true = refl
      go true false = refl
      go false d = refl

  pub asked_inside : (w : ℕ) → curve_inside c ≡ true → m ≤ 2000 → w ≡ curve_cost c m → Ok w ≡ answer_of (cost_asked c m)
  asked_inside w i h e = rw (e, i, le-leb 0 m (omega arith), le-leb m 2000 h)
