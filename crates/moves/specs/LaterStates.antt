-- What stays of a source from group to group: its plant, and b once it is set.
use Rattle.std.specs.Prelude.{true, ◌≡◌, refl, ℕ}
use Rattle.std.proofs.Common.{◌∙◌}
use Rattle.merit.specs.LevelNeverBelowB.{Took, Moved}
use Rattle.rules.specs.Group.{changed}
use Rattle.rules.specs.declared.Running.{Running}

-- e is a state of the source that stood at u before
pub record Later (u e : Running) : Type 0 where
  pub plant : e.plant ≡ u.plant
  pub stays : u.based ≡ true → (e.based ≡ true) × (e.b ≡ u.b)

pub later_same : (u : Running) → Later u u
later_same u = record { plant = refl; stays = λ z. (z, refl) }

pub later_then : (s t u : Running) → Later s t → Later t u → Later s u
later_then s t u a b = record { plant = b.plant ∙ a.plant; stays = λ z. (let x = a.stays z in let y = b.stays x.0 in (y.0, y.1 ∙ x.1)) }

pub took_later : (s t : Running) → Took s t → Later s t
took_later s t k = record { plant = k.plant; stays = k.stays }

pub moved_later : (t u : Running) → Moved t u → Later t u
moved_later t u m = rw m.is (record { plant = refl; stays = λ z. (z, refl) })

-- W as changed stays once b is set
pub later_changed : (u e : Running) → Later u e → u.based ≡ true → (m : ℕ) → changed e m ≡ changed u m
unfolding changed
later_changed u e l z m = let x = l.stays z in rw (x.0, x.1, l.plant, z)
