-- Where a line's answer tells where a label stands, a label stands there.
use Rattle.std.specs.Prelude.{◌≡◌, refl, Bool, true, false, List, ℕ, eqb, Option, Some, None, IfSome}
use Rattle.std.proofs.lemmas.Option.{MatchOption-at_some}
use Rattle.rules.specs.Words.{when◌then◌else◌}
use Rattle.rules.specs.Fields as fields
use Rattle.rules.specs.Fields.{Field, got, malformed}
use Rattle.rules.specs.Lines.{U, P, F, T, D, Fields, fields_of, places_at}
use Rattle.rules.specs.declared.Unit as unit
use Rattle.read_fields.specs.declared.Place.{Place}
use Rattle.read_lines.specs.Answers.{unit_line, purchase_line, fixed_line, delivery_line, direct_line}
use Rattle.read_lines.specs.Cut.{LabelStands, line_stands}
use Rattle.read_lines.specs.declared.UnitLine.{UnitLine}
use Rattle.read_lines.specs.declared.PurchaseLine.{PurchaseLine}
use Rattle.read_lines.specs.declared.FixedLine.{FixedLine}
use Rattle.read_lines.specs.declared.DeliveryLine.{DeliveryLine}
use Rattle.read_lines.specs.declared.DirectLine.{DirectLine}
use Rattle.deck.specs.Answers.{place_at}
use Rattle.deck.specs.Steps.{judged_source, unit_source, purchase_source, fixed_source, plant_from}
use Rattle.deck.specs.declared.SourceLine.{SourceLine}

abbrev pub StandsAt : List ℕ → Place → Type 0
StandsAt s p = LabelStands s (place_at p)

module _ (s : List ℕ) (at : ℕ) where
  unit_stands : IfSome (unit_source (unit_line (places_at s at U))) (λ l. StandsAt s l.label)
  unit_stands = go (places_at s at U) refl
    where
      by_unit : (u : Option unit.Unit) (p : Place) (next : ℕ) → StandsAt s p → StandsAt s (judged_source u p next).label
      by_unit (Some u) p next e = e
      by_unit None p next e = e

      go : (f : Field (Fields fields.Place (fields_of U))) → places_at s at U ≡ f → IfSome (unit_source (unit_line f)) (λ l. StandsAt s l.label)
      go (got v next) e = by_unit _ _ next (line_stands s U at v next e).labels.0
      go malformed e = tt

  purchase_stands : IfSome (purchase_source (purchase_line (places_at s at P))) (λ l. StandsAt s l.label)
  purchase_stands = go (places_at s at P) refl
    where
      go : (f : Field (Fields fields.Place (fields_of P))) → places_at s at P ≡ f → IfSome (purchase_source (purchase_line f)) (λ l. StandsAt s l.label)
      go (got v next) e = (line_stands s P at v next e).labels.0
      go malformed e = tt

  fixed_stands : IfSome (fixed_source (fixed_line (places_at s at F))) (λ l. StandsAt s l.label)
  fixed_stands = go (places_at s at F) refl
    where
      go : (f : Field (Fields fields.Place (fields_of F))) → places_at s at F ≡ f → IfSome (fixed_source (fixed_line f)) (λ l. StandsAt s l.label)
      go (got v next) e = (line_stands s F at v next e).labels.0
      go malformed e = tt

  pub unit_told : (l : UnitLine) → unit_line (places_at s at U) ≡ Some l → StandsAt s l.label
  unit_told l e = MatchOption-at_some _ (λ l. StandsAt s l.label) l e (go (places_at s at U) refl)
    where
      go : (f : Field (Fields fields.Place (fields_of U))) → places_at s at U ≡ f → IfSome (unit_line f) (λ l. StandsAt s l.label)
      go (got v next) e = (line_stands s U at v next e).labels.0
      go malformed e = tt

  pub purchase_told : (l : PurchaseLine) → purchase_line (places_at s at P) ≡ Some l → StandsAt s l.label
  purchase_told l e = MatchOption-at_some _ (λ l. StandsAt s l.label) l e (go (places_at s at P) refl)
    where
      go : (f : Field (Fields fields.Place (fields_of P))) → places_at s at P ≡ f → IfSome (purchase_line f) (λ l. StandsAt s l.label)
      go (got v next) e = (line_stands s P at v next e).labels.0
      go malformed e = tt

  pub fixed_told : (l : FixedLine) → fixed_line (places_at s at F) ≡ Some l → StandsAt s l.label
  fixed_told l e = MatchOption-at_some _ (λ l. StandsAt s l.label) l e (go (places_at s at F) refl)
    where
      go : (f : Field (Fields fields.Place (fields_of F))) → places_at s at F ≡ f → IfSome (fixed_line f) (λ l. StandsAt s l.label)
      go (got v next) e = (line_stands s F at v next e).labels.0
      go malformed e = tt

  -- a source line, by its letter
  pub source_told : (letter : ℕ) (l : SourceLine) → plant_from s at letter ≡ Some l → StandsAt s l.label
  source_told letter l e = MatchOption-at_some _ (λ l. StandsAt s l.label) l e (go (eqb letter 85) (eqb letter 80) (eqb letter 70))
    where
      go : (u p f : Bool) → IfSome (when u then unit_source (unit_line (places_at s at U)) else when p then purchase_source (purchase_line (places_at s at P)) else when f then fixed_source (fixed_line (places_at s at F)) else None) (λ l. StandsAt s l.label)
      go true p f = unit_stands
      go false true f = purchase_stands
      go false false true = fixed_stands
      go false false false = tt

  pub delivery_told : (l : DeliveryLine) → delivery_line (places_at s at T) ≡ Some l → StandsAt s l.label
  delivery_told l e = MatchOption-at_some _ (λ l. StandsAt s l.label) l e (go (places_at s at T) refl)
    where
      go : (f : Field (Fields fields.Place (fields_of T))) → places_at s at T ≡ f → IfSome (delivery_line f) (λ l. StandsAt s l.label)
      go (got v next) e = (line_stands s T at v next e).labels.0
      go malformed e = tt

  -- the unit that a D line names, and the delivery
  pub direct_told : (l : DirectLine) → direct_line (places_at s at D) ≡ Some l → StandsAt s l.unit × StandsAt s l.delivery
  direct_told l e = MatchOption-at_some _ (λ l. StandsAt s l.unit × StandsAt s l.delivery) l e (go (places_at s at D) refl)
    where
      go : (f : Field (Fields fields.Place (fields_of D))) → places_at s at D ≡ f → IfSome (direct_line f) (λ l. StandsAt s l.unit × StandsAt s l.delivery)
      go (got v next) e = let k = (line_stands s D at v next e).labels in (k.0, k.1.0)
      go malformed e = tt

  module _ (l : DirectLine) (e : direct_line (places_at s at D) ≡ Some l) where
    pub unit_named_told : StandsAt s l.unit
    unit_named_told = (direct_told l e).0

    pub delivery_named_told : StandsAt s l.delivery
    delivery_named_told = (direct_told l e).1
