-- "the cost charged is that at the new D less that at the old D", W as changed by the line's own b: what one D line adds to what D has cost is just that,
-- and the charges of lines one after another add up.
use Rattle.std.specs.Prelude.{Bool, true, false, ◌≡◌, refl, ℕ, ◌+◌, ◌-◌, ◌≤◌}
use Rattle.std.proofs.Common.{sym, ap, ◌∙◌, arith}
use Rattle.merit.specs.ChangedFromB.{changed_zero}
use Rattle.merit.specs.LevelNeverBelowB.{Sound, Took}
use Rattle.rules.specs.Group.{changed, charged, with_basic, directed}
use Rattle.rules.specs.declared.Basis.{Basis}
use Rattle.rules.specs.declared.Direct.{Direct}
use Rattle.rules.specs.declared.Plant.{Plant}
use Rattle.rules.specs.declared.Running.{Running}

-- b set at the first line changes nothing of what D cost before, for D was 0
basic_charged : (t : Bool) (p : Plant) (v d b c : ℕ) (y : Basis) → let s : Running = record { plant = p; v = v; d = d; b = b; based = t; percent = c } in
    Sound s → changed (with_basic s y) d ≡ charged s
unfolding changed
basic_charged true p v d b c y g = refl
basic_charged false p v d b c y g =
    let s : Running = record { plant = p; v = v; d = d; b = b; based = false; percent = c } in
    let l : d ≤ b = g.part in
    let d0 : d ≡ 0 = omega (arith, (g.unset refl).0) in
    ap (changed (with_basic s y)) d0 ∙ changed_zero (with_basic s y) g.starts ∙ sym (ap (changed s) d0 ∙ changed_zero s g.starts)

pub line_charge : (s : Running) (line : Direct) → Sound s →
    charged (directed s line) - charged s ≡ changed (with_basic s line.basis) (directed s line).d - changed (with_basic s line.basis) s.d
unfolding changed directed
line_charge s line g =
    ap (λ (x : ℕ). charged (directed s line) - x) (sym (basic_charged s.based s.plant s.v s.d s.b s.percent line.basis g))

pub charges_add_up : (s t u : Running) → Took s t → Took t u → (charged t - charged s) + (charged u - charged t) ≡ charged u - charged s
charges_add_up s t u a b = omega (arith, a.charged, b.charged)
