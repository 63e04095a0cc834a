-- The ladder's steps: each as rules' Group has it, and its low.
use Rattle.std.specs.Prelude.{true, ◌&&◌, ◌≡◌, ℕ, ◌≤◌, leb}
use Rattle.std.proofs.Common.{arith, leb-true}
use Rattle.laws.specs.Choices.{both_true}
use Rattle.merit.specs.NumbersStaySmall.{PlantSmall}
use Rattle.rules.specs.Group as Group
use Rattle.rules.specs.Units.{normal_low, oil_low, emergency_low, levelled}
use Rattle.rules.specs.declared.Plant.{Plant}
use Rattle.rules.specs.declared.Plant.TheVariants.{Unit as U, Purchase as P, Fixed as F}
use Rattle.curve.specs.declared.Rung.{Rung}
use Rattle.curve.specs.declared.Rung.TheVariants.{Normal, Oil, Emergency, Last}

abbrev pub rung_of : Rung → Group.Rung
rung_of Normal = Group.normal
rung_of Oil = Group.oil
rung_of Emergency = Group.emergency
rung_of Last = Group.last

-- the last step has none
abbrev pub low_at : Rung → Plant → ℕ
low_at Normal p = normal_low p
low_at Oil p = oil_low p
low_at Emergency p = emergency_low p
low_at Last p = 0

-- what `dearer_average` asks of each source
pub low_small : (p : Plant) → PlantSmall p → levelled p ≡ true → normal_low p ≤ 2000
low_small (U u) l e =
    let p = both_true (leb u.curve.k u.e && leb u.e u.o && leb u.o u.n && leb u.n u.g) (leb u.g u.h) e in
    let q = both_true (leb u.curve.k u.e && leb u.e u.o && leb u.o u.n) (leb u.n u.g) p.0 in
    omega (arith, l.g, leb-true u.n u.g q.1)
low_small (P g rate) l e = omega arith
low_small (F g) l e = omega arith
