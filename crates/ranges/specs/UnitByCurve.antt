-- A unit's numbers are in their ranges where its levels are and the curve is; so a unit is judged by its levels and by what making its curve answers.
use Rattle.std.specs.Prelude.{◌≡◌, refl, Bool, true, false, not, ◌&&◌, Some, None, Ok, Err}
use Rattle.std.proofs.Common.{ap, sym, ◌∙◌}
use Rattle.rules.specs.Ranges.{inside, unit_level, coefficient_a, coefficient_b, coefficient_c, heat_rate}
use Rattle.rules.specs.Units.{curve_inside, curve_made}
use Rattle.rules.specs.Refusals.{accepted, refuse}
use Rattle.rules.specs.Answers.{answer_of}
use Rattle.rules.specs.Lines as lines
use Rattle.rules.specs.declared.HeatCurve.{HeatCurve}
use Rattle.rules.specs.declared.Unit.{Unit}
use Rattle.rules.specs.declared.Plant.TheVariants.{Unit as U}
use Rattle.rules.specs.declared.Refusal.{Refusal}
use Rattle.rules.specs.declared.Refusal.TheVariants.{Range}
use Rattle.ranges.specs.Inside as tests
use Rattle.ranges.specs.Inside.{levels_inside, plant_inside, unit_made, judged}
use Rattle.ranges.specs.declared.UnitNumbers.{UnitNumbers}

five_then : (g h n o e c : Bool) → (g && (h && (n && (o && (e && c))))) ≡ ((g && h && n && o && e) && c)
five_then true true true true e c = refl
five_then true true true false e c = refl
five_then true true false o e c = refl
five_then true false n o e c = refl
five_then false h n o e c = refl

-- the test of a line ends in true
last_true : (k a b c r : Bool) → (k && (a && (b && (c && (r && true))))) ≡ (k && a && b && c && r)
last_true true true true true true = refl
last_true true true true true false = refl
last_true true true true false r = refl
last_true true true false c r = refl
last_true true false b c r = refl
last_true false a b c r = refl

pub by_curve : (u : Unit) → plant_inside (U u) ≡ (levels_inside u.g u.h u.n u.o u.e && curve_inside u.curve)
unfolding lines.ranged tests.plant_inside
by_curve u =
    let c = u.curve in
    let last = last_true (inside unit_level c.k) (inside coefficient_a c.a) (inside coefficient_b c.b) (inside coefficient_c c.c) (inside heat_rate c.r) in
    five_then (inside unit_level u.g) (inside unit_level u.h) (inside unit_level u.n) (inside unit_level u.o) (inside unit_level u.e) _
    ∙ ap (λ (b : Bool). levels_inside u.g u.h u.n u.o u.e && b) last

-- What making a curve answers.

curve_made_lem : (c d : HeatCurve) → answer_of (curve_made c) ≡ Ok d → (curve_inside c ≡ true) × (c ≡ d)
curve_made_lem c d = go (curve_inside c)
  where
    go : (b : Bool) → answer_of (refuse (not b) (Range 0) (accepted c)) ≡ Ok d → (b ≡ true) × (c ≡ d)
    go true e = (refl, cc)
    go false e = cc

curve_refused : (c : HeatCurve) (r : Refusal) → answer_of (curve_made c) ≡ Err r → curve_inside c ≡ false
curve_refused c r = go (curve_inside c)
  where
    go : (b : Bool) → answer_of (refuse (not b) (Range 0) (accepted c)) ≡ Err r → b ≡ false
    go true e = cc
    go false e = refl

and_false : (b : Bool) → (b && false) ≡ false
and_false true = refl
and_false false = refl

-- The three ways to a judgement.

module _ (x : UnitNumbers) where
  abbrev levels : Bool
  levels = levels_inside x.g x.h x.n x.o x.e

  abbrev curve : HeatCurve
  curve = (unit_made x).curve

  pub judged_by_levels : levels ≡ false → None ≡ judged x
  judged_by_levels e = rw (by_curve (unit_made x), e)

  pub judged_by_curve : (r : Refusal) → answer_of (curve_made curve) ≡ Err r → None ≡ judged x
  judged_by_curve r e = rw (by_curve (unit_made x), curve_refused curve r e, and_false levels)

  pub judged_inside : levels ≡ true → (d : HeatCurve) → answer_of (curve_made curve) ≡ Ok d
      → Some (record { g = x.g; h = x.h; n = x.n; o = x.o; e = x.e; curve = d }) ≡ judged x
  judged_inside l d e =
      let m = curve_made_lem curve d e in
      rw (by_curve (unit_made x), l, m.0) (ap (λ (c : HeatCurve). Some (record { g = x.g; h = x.h; n = x.n; o = x.o; e = x.e; curve = c })) (sym m.1))
