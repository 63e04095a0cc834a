-- What was charged of a sound running state is at most W at its level, and W at the level stays through D lines.
use Rattle.std.specs.Prelude.{Bool, true, false, ◌≡◌, refl, ◌≤◌}
use Rattle.std.proofs.Common.{sym, ap, ◌∙◌, le_trans, arith}
use Rattle.merit.specs.ChangedFromB.{cost_grows, changed_over, changed_under, changed_zero}
use Rattle.rules.specs.Group.{level, changed, charged}
use Rattle.rules.specs.Units.{cost}
use Rattle.rules.specs.declared.Plant.{Plant}
use Rattle.rules.specs.declared.Running.{Running}
use Rattle.merit.specs.LevelNeverBelowB.{Sound, Took}

-- what was charged is at most W at the level
pub charged_most : (s : Running) → Sound s → charged s ≤ changed s (level s)
charged_most s g = go s.based refl
  where
    z : changed s s.b ≤ changed s (level s)
    z = rw (changed_over s g.starts s.b (omega arith), changed_over s g.starts (level s) g.above) (cost_grows s.plant s.b (level s) g.above)

    go : (t : Bool) → s.based ≡ t → charged s ≤ changed s (level s)
    go true e = le_trans (changed_under s e s.d s.b g.part (omega arith)) z
    go false e =
        let d0 : s.d ≡ 0 = omega (arith, g.part, (g.unset e).0) in
        let p : charged s ≡ 0 = ap (changed s) d0 ∙ changed_zero s g.starts in
        omega arith

-- W at the level stays: it is W as it was, whatever b is
pub took_value : (s t : Running) → Sound s → Took s t → changed t (level t) ≡ changed s (level s)
took_value s t g k =
    changed_over t k.sound.starts (level t) k.sound.above ∙ ap (λ (p : Plant). cost p (level t)) k.plant ∙ ap (cost s.plant) k.level ∙
    sym (changed_over s g.starts (level s) g.above)
