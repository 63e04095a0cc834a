-- A line's numbers are in their ranges just where those of its entry are.
use Rattle.std.specs.Prelude.{◌≡◌, refl}
use Rattle.rules.specs.Fields.{Chars}
use Rattle.rules.specs.Lines as lines
use Rattle.rules.specs.Lines.{H, U, P, F, T, D, Fields, fields_of, ranged}
use Rattle.rules.specs.Record.{unit_of, purchase_of, fixed_of, plant_line}
use Rattle.rules.specs.declared.Plant.{Plant}
use Rattle.rules.specs.declared.Plant.TheVariants.{Unit, Purchase, Fixed}
use Rattle.roundtrip.specs.Lines.{line_ranged}
use Rattle.ranges.specs.Inside as tests
use Rattle.ranges.specs.Inside.{plant_inside, delivery_inside, direct_inside, losses_inside}

pub losses_inside_lem : (v : Fields Chars (fields_of H)) → ranged (fields_of H) v ≡ losses_inside v.0
unfolding lines.ranged tests.losses_inside
losses_inside_lem v = refl

pub plant_inside_lem : (p : Plant) (cs : Chars) → line_ranged (plant_line p cs) ≡ plant_inside p
unfolding lines.ranged tests.plant_inside
plant_inside_lem (Unit u) cs = refl
plant_inside_lem (Purchase g rate) cs = refl
plant_inside_lem (Fixed g) cs = refl

pub unit_inside : (v : Fields Chars (fields_of U)) → ranged (fields_of U) v ≡ plant_inside (unit_of v).plant
unfolding lines.ranged tests.plant_inside
unit_inside v = refl

pub purchase_inside : (v : Fields Chars (fields_of P)) → ranged (fields_of P) v ≡ plant_inside (purchase_of v).plant
unfolding lines.ranged tests.plant_inside
purchase_inside v = refl

pub fixed_inside : (v : Fields Chars (fields_of F)) → ranged (fields_of F) v ≡ plant_inside (fixed_of v).plant
unfolding lines.ranged tests.plant_inside
fixed_inside v = refl

pub delivery_inside_lem : (v : Fields Chars (fields_of T)) → ranged (fields_of T) v ≡ delivery_inside v.0 v.1.0 v.1.1.0 v.1.1.1.0
unfolding lines.ranged tests.delivery_inside
delivery_inside_lem v = refl

pub direct_inside_lem : (v : Fields Chars (fields_of D)) → ranged (fields_of D) v ≡ direct_inside v.0 v.1.0
unfolding lines.ranged tests.direct_inside
direct_inside_lem v = refl
