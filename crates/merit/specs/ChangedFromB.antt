-- W as changed is W from b up; W grows with the level, and W as changed up to b.
use Rattle.std.specs.Prelude.{Bool, true, false, ◌&&◌, ◌≡◌, refl, ℕ, zero, suc, ◌+◌, ◌*◌, ◌/◌, ◌≤◌, leb, eqb}
use Rattle.std.proofs.Common.{ap, sym, le_trans, mul-div_cancel, mul-le-mul, mul-le-mul_left, mul-le-mul_right, mul-zero, arith, le-leb, leb-true, ne_eqb}
use Rattle.std.proofs.Math.Decide.{dec_le}
use Rattle.std.proofs.Math.Nat.{div-zero, zero-div}
use Rattle.std.proofs.lemmas.Bool.{lt-leb}
use Rattle.laws.specs.Sums.{div_grows, part_most}
use Rattle.rules.specs.Group.{changed}
use Rattle.rules.specs.Units.{heat, curve_cost, cost}
use Rattle.rules.specs.Words.{when◌then◌else◌}
use Rattle.rules.specs.declared.HeatCurve.{HeatCurve}
use Rattle.rules.specs.declared.Plant.{Plant}
use Rattle.rules.specs.declared.Plant.TheVariants.{Unit as U, Purchase as P, Fixed as F}
use Rattle.rules.specs.declared.Running.{Running}
use Rattle.rules.specs.declared.Unit.{Unit}

heat_grows : (c : HeatCurve) (m z : ℕ) → m ≤ z → heat c m ≤ heat c z
heat_grows c m z h =
    let p = mul-le-mul_left (2 * c.b) h in
    let q = mul-le-mul (mul-le-mul_left c.c h) h in
    let r : 2 * c.a + 2 * c.b * m + c.c * m * m ≤ 2 * c.a + 2 * c.b * z + c.c * z * z = omega (arith, p, q) in
    mul-le-mul_right c.r r

curve_grows : (c : HeatCurve) (m z : ℕ) → m ≤ z → curve_cost c m ≤ curve_cost c z
unfolding curve_cost
curve_grows c m z h = elim (dec_le c.k m) [
  | yes l ↦ (let l' : c.k ≤ z = omega arith in rw (le-leb c.k m l, le-leb c.k z l') (heat_grows c m z h))
  | no l ↦ (elim (dec_le c.k z) [
    | yes l' ↦ (rw (lt-leb c.k m (omega arith), le-leb c.k z l')
        (le_trans (part_most (heat c c.k) m c.k (omega arith)) (heat_grows c c.k z l')))
    | no l' ↦ (rw (lt-leb c.k m (omega arith), lt-leb c.k z (omega arith)) (div_grows _ _ c.k (mul-le-mul_left (heat c c.k) h)))
  ])
]

-- W grows with the level
pub cost_grows : (p : Plant) (m z : ℕ) → m ≤ z → cost p m ≤ cost p z
cost_grows (U u) m z h = curve_grows u.curve m z h
cost_grows (P g rate) m z h = mul-le-mul_left (rate * 2000) h
cost_grows (F g) m z h = omega arith

-- "W(0) = 0"
abbrev pub Starts : Plant → Type 0
Starts p = cost p 0 ≡ 0

-- of a unit whose curve starts at 1 or more
pub unit_starts : (u : Unit) → 1 ≤ u.curve.k → Starts (U u)
unfolding curve_cost
unit_starts u h = rw (lt-leb u.curve.k 0 h, mul-zero (heat u.curve u.curve.k)) (zero-div u.curve.k)

-- a number over 0 is 0, so that what stands up to b is one quotient
pub changed_is : (s : Running) (m : ℕ) → changed s m ≡ (when s.based && leb m s.b then cost s.plant s.b * m / s.b else cost s.plant m)
unfolding changed
changed_is s m = ap (λ (x : ℕ). when s.based && leb m s.b then x else cost s.plant m) (go s.b)
  where
    go : (b : ℕ) → (when eqb b 0 then 0 else cost s.plant b * m / b) ≡ cost s.plant b * m / b
    go zero = sym (div-zero (cost s.plant 0 * m))
    go (suc b) = rw (ne_eqb (suc b) 0 (λ e. omega arith))

module _ (s : Running) where
  pub changed_over : Starts s.plant → (m : ℕ) → s.b ≤ m → changed s m ≡ cost s.plant m
  changed_over z m h = rw (changed_is s m) (go s.based (leb m s.b) refl)
    where
      same : (b : ℕ) → b ≡ m → cost s.plant b * m / b ≡ cost s.plant m
      same zero e = rw (← e) (rw z (div-zero 0))
      same (suc b) e = rw (← e) (mul-div_cancel (cost s.plant (suc b)) {n = suc b} (omega arith))

      go : (x y : Bool) → leb m s.b ≡ y → (when x && y then cost s.plant s.b * m / s.b else cost s.plant m) ≡ cost s.plant m
      go true true e = same s.b (omega (arith, leb-true m s.b e))
      go true false e = refl
      go false y e = refl

  pub changed_under : s.based ≡ true → (m z : ℕ) → m ≤ z → z ≤ s.b → changed s m ≤ changed s z
  changed_under e m z h l =
      rw (changed_is s m, changed_is s z, e, le-leb m s.b (le_trans h l), le-leb z s.b l) (div_grows _ _ s.b (mul-le-mul_left (cost s.plant s.b) h))

  pub changed_zero : Starts s.plant → changed s 0 ≡ 0
  changed_zero z = rw (changed_is s 0) (go s.based (leb 0 s.b))
    where
      go : (x y : Bool) → (when x && y then cost s.plant s.b * 0 / s.b else cost s.plant 0) ≡ 0
      go true true = rw (mul-zero (cost s.plant s.b)) (zero-div s.b)
      go true false = z
      go false y = z
