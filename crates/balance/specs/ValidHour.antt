-- A valid hour record has what the theorems on its answer ask, at every index, blank and missing entries too.
use Rattle.std.specs.Prelude.{true, List, ◌≡◌, refl, ℕ, ◌≤◌, get_or}
use Rattle.std.proofs.Common.{sym, subst, arith}
use Rattle.std.proofs.Math.Decide.{dec_lt}
use Rattle.std.proofs.Math.ListN.{get_or-eq_default}
use Rattle.balance.specs.CellsFit.{SmallHour}
use Rattle.balance.specs.HourBalances.{plant_at, Given}
use Rattle.merit.specs.ChangedFromB.{Starts, unit_starts}
use Rattle.merit.specs.NumbersStaySmall.{PlantSmall}
use Rattle.roundtrip.specs.Entries.{SourceGiven, DeliveryGiven, PlantRanged, curve_from, Filled}
use Rattle.roundtrip.specs.GivenHour.{valid_given}
use Rattle.rules.specs.Group.{no_unit}
use Rattle.rules.specs.Record.{no_source, blank_source, blank_delivery, delivery_at}
use Rattle.rules.specs.Sequences.{no_delivery}
use Rattle.rules.specs.Units as units
use Rattle.rules.specs.Writing.{valid}
use Rattle.rules.specs.declared.Hour.{Hour}
use Rattle.rules.specs.declared.Plant.{Plant}
use Rattle.rules.specs.declared.Plant.TheVariants.{Unit as U, Purchase as P, Fixed as F}

-- what holds of the entries, of a blank one and past the end holds everywhere
everywhere : {A : Type 0} (Q R : A → Type 0) (blank default : A) (xs : List A) (n : ℕ) → Filled Q blank default xs n → ((x : A) → Q x → R x) → R blank → R default → (i : ℕ) → R (get_or xs i default)
everywhere Q R blank default xs n f entry b d i = elim (dec_lt i n) [
  | yes l ↦ entry (get_or xs i default) (f.entry i l)
  | no l ↦ (elim (dec_lt i 32) [
    | yes m ↦ subst R (sym (f.rest i (omega arith) m)) b
    | no m ↦ subst R (sym (get_or-eq_default xs default {n = i} (omega (arith, f.size)))) d
  ])
]

-- W(0) = 0
plant_starts : (p : Plant) → PlantRanged p → Starts p
plant_starts (U u) r = unit_starts u (curve_from u.curve r.curve).k.least
plant_starts (P g rate) r = omega arith
plant_starts (F g) r = refl

plant_small : (p : Plant) → PlantRanged p → PlantSmall p
plant_small (U u) r =
    let c = curve_from u.curve r.curve in
    record { g = r.g.most; h = r.h.most; curve = record { k = c.k.most; a = c.a.most; b = c.b.most; c = c.c.most; r = c.r.most } }
plant_small (P g rate) r = (r.0.most, r.1.most)
plant_small (F g) r = r.most

missing_starts : Starts (U no_unit)
unfolding units.curve_cost
missing_starts = refl

missing_small : PlantSmall (U no_unit)
missing_small = record { g = omega arith; h = omega arith; curve = record { k = omega arith; a = omega arith; b = omega arith; c = omega arith; r = omega arith } }

module _ (h : Hour) (v : valid h ≡ true) where
  sources_given : Filled SourceGiven blank_source no_source h.sources h.nsources
  sources_given = (valid_given h v).sources

  pub valid_balances : Given h
  valid_balances =
      record {
        starts = everywhere SourceGiven (λ x. Starts x.plant) blank_source no_source h.sources h.nsources sources_given (λ x g. plant_starts x.plant g.within) refl missing_starts;
        percents = (valid_given h v).percents;
        long = omega (arith, (valid_given h v).deliveries.few, (valid_given h v).deliveries.size);
      }

  pub valid_small : SmallHour h
  valid_small =
      record {
        plants = everywhere SourceGiven (λ x. PlantSmall x.plant) blank_source no_source h.sources h.nsources sources_given (λ x g. plant_small x.plant g.within) (omega arith) missing_small;
      }

  pub valid_levels : (i : ℕ) → units.levelled (plant_at h i) ≡ true
  valid_levels =
      everywhere SourceGiven (λ x. units.levelled x.plant ≡ true) blank_source no_source h.sources h.nsources sources_given (λ x g. g.levels) refl refl

  pub valid_sequences : (j : ℕ) → (delivery_at h j).sequence.0 ≤ 99
  valid_sequences =
      everywhere DeliveryGiven (λ x. x.sequence.0 ≤ 99) blank_delivery no_delivery h.deliveries h.ndeliveries (valid_given h v).deliveries (λ x g. g.sequence.most) (omega arith) (omega arith)
