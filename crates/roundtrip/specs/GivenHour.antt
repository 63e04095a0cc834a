-- What every valid hour has: lists of 32 with blanks past each count, entries in their ranges and past the rules,
-- percents of at most 100 a unit, no more drawn than generated, and a delivery to place others by.
use Rattle.std.specs.Prelude.{◌≡◌, refl, true, false, not, List, ℕ, ◌+◌, ◌<◌, ◌≤◌}
use Rattle.std.proofs.Common.{sym, ◌∙◌}
use Rattle.std.proofs.Math.Option.{Option, none, some}
use Rattle.std.proofs.lemmas.Bool.{not-true}
use Rattle.rules.specs.Ranges.{losses}
use Rattle.rules.specs.Refusals.{accepted}
use Rattle.rules.specs.Sequences.{no_delivery, to_place}
use Rattle.rules.specs.Group.{no_direct}
use Rattle.rules.specs.Record.{no_source, delivery_at, blank_source, blank_delivery, blank_direct, head_line, started}
use Rattle.rules.specs.Reading.{percents_of, generated, delivered, unplaced, reading}
use Rattle.rules.specs.Writing.{valid}
use Rattle.rules.specs.declared.Hour.{Hour}
use Rattle.laws.specs.Choices.{true_not_false}
use Rattle.laws.specs.Lists.{find_to_passes, find_to_none}
use Rattle.roundtrip.specs.Fields.{Inside, inside_from}
use Rattle.roundtrip.specs.FirstUnplaced.{placer, none_numbered}
use Rattle.roundtrip.specs.Taken.{finished_passed}
use Rattle.roundtrip.specs.Entries.{SourceGiven, DeliveryGiven, DirectGiven, Filled, line_ranged_lem}
use Rattle.roundtrip.specs.AcceptedIsWriting.{reading_stands}
use Rattle.roundtrip.specs.OwnLines.{OwnLines, head_passed, valid_own, own_entries}

pub record GivenHour (h : Hour) : Type 0 where
  pub losses : Inside losses h.losses
  pub sources : Filled SourceGiven blank_source no_source h.sources h.nsources
  pub deliveries : Filled DeliveryGiven blank_delivery no_delivery h.deliveries h.ndeliveries
  pub directs : Filled (DirectGiven h) blank_direct no_direct h.directs h.ndirects
  pub percents : (i : ℕ) → percents_of h i ≤ 100
  pub drawn : h.losses + delivered h ≤ generated h
  pub placer : (j : ℕ) → j < h.ndeliveries → to_place (delivery_at h j) ≡ true → (i : ℕ) × ((i < h.ndeliveries) × (to_place (delivery_at h i) ≡ false))

-- a delivery to be placed has one that is
placer_given : (h : Hour) → unplaced h ≡ none → (j : ℕ) → j < h.ndeliveries → (i : ℕ) × ((i < h.ndeliveries) × (to_place (delivery_at h i) ≡ false))
placer_given h u j lt = go (placer h) refl
  where
    go : (p : Option ℕ) → placer h ≡ p → (i : ℕ) × ((i < h.ndeliveries) × (to_place (delivery_at h i) ≡ false))
    go none e = true_not_false (sym (none_numbered h e j lt) ∙ find_to_none _ h.ndeliveries u j lt)
    go (some i) e = let f = find_to_passes (λ i. not (to_place (delivery_at h i))) h.ndeliveries i e in (i, (f.0, not-true (to_place (delivery_at h i)) f.1))

own_given : (h : Hour) → OwnLines h → GivenHour h
own_given h o =
    let g = own_entries h o in
    let f = finished_passed h h o.done in
    record {
      losses = inside_from losses h.losses (line_ranged_lem (head_line h) (head_passed h (started h.losses) o.head).0).0;
      sources = g.sources;
      deliveries = g.deliveries;
      directs = g.directs;
      percents = g.percents;
      drawn = f.drawn;
      placer = λ j lt e. placer_given h f.placed j lt;
    }

pub valid_given : (h : Hour) → valid h ≡ true → GivenHour h
valid_given h v = own_given h (valid_own h v)

pub accepted_given : (s : List ℕ) (h : Hour) → reading s ≡ accepted h → GivenHour h
accepted_given s h e = own_given h (reading_stands s h e).own
