-- The entries of lines that were taken are in their ranges and past the rules, and the rest of each list is blank.
use Rattle.std.specs.Prelude.{◌≡◌, refl, Bool, true, false, List, [], ◌∷◌, ℕ, ◌+◌, ◌<◌, ◌≤◌, eqb, length, get_or, set, replicate}
use Rattle.std.proofs.Common.{ap, subst, ◌∙◌, add-one, arith, length-set, get_or-set_same, get_or-set_other, eqb-true}
use Rattle.std.proofs.lemmas.List.{get_or-replicate}
use Rattle.rules.specs.Words as words
use Rattle.rules.specs.Words.{when◌then◌else◌, sum_to}
use Rattle.rules.specs.Ranges.{inside, unit_level, coefficient_a, coefficient_b, coefficient_c, heat_rate, energy, purchase_rate, sequence, type, block, basis_mwh, percent}
use Rattle.rules.specs.Units.{generation, is_unit, levelled, curve_inside}
use Rattle.rules.specs.Sequences.{no_delivery}
use Rattle.rules.specs.Group.{no_direct}
use Rattle.rules.specs.Fields.{Chars}
use Rattle.rules.specs.Lines as lines
use Rattle.rules.specs.Lines.{Kind, number, basis, label, Fields, fields_of, basis_inside, ranged, Line}
use Rattle.rules.specs.Record as record_of
use Rattle.rules.specs.Record.{no_source, source_at, direct_at, blank_source, blank_delivery, blank_direct, started, with_source, with_delivery, with_direct, plant_line, source_line, delivery_line, direct_line}
use Rattle.rules.specs.Reading.{below_high, percents_of}
use Rattle.rules.specs.declared.HeatCurve.{HeatCurve}
use Rattle.rules.specs.declared.Unit as declared
use Rattle.rules.specs.declared.Plant.{Plant}
use Rattle.rules.specs.declared.Plant.TheVariants.{Unit as U, Purchase as P, Fixed as F}
use Rattle.rules.specs.declared.Source.{Source}
use Rattle.rules.specs.declared.Delivery.{Delivery}
use Rattle.rules.specs.declared.Direct.{Direct}
use Rattle.rules.specs.declared.Hour.{Hour}
use Rattle.laws.specs.Choices.{both_true}
use Rattle.laws.specs.Sums.{below_suc}
use Rattle.laws.specs.Lists.{sum_to_set}
use Rattle.roundtrip.specs.Fields.{Inside, inside_from}
use Rattle.roundtrip.specs.Lines.{line_ranged}
use Rattle.roundtrip.specs.Taken.{Entry, source, delivery, direct, Taken}

-- Numbers in their ranges.

-- each field's test
abbrev pub Ranged : (ks : List Kind) → Fields Chars ks → Type 0
Ranged [] v = Unit {0}
Ranged (number x ∷ ks) v = (inside x v.0 ≡ true) × Ranged ks v.1
Ranged (basis x ∷ ks) v = (basis_inside x v.0 ≡ true) × Ranged ks v.1
Ranged (label ∷ ks) v = Ranged ks v.1

ranged_from : (ks : List Kind) (v : Fields Chars ks) → ranged ks v ≡ true → Ranged ks v
unfolding lines.ranged
ranged_from [] v e = tt
ranged_from (number x ∷ ks) v e = let p = both_true (inside x v.0) (ranged ks v.1) e in (p.0, ranged_from ks v.1 p.1)
ranged_from (basis x ∷ ks) v e = let p = both_true (basis_inside x v.0) (ranged ks v.1) e in (p.0, ranged_from ks v.1 p.1)
ranged_from (label ∷ ks) v e = ranged_from ks v.1 e

pub line_ranged_lem : (l : Line) → line_ranged l ≡ true → Ranged (fields_of l.letter) l.fields
line_ranged_lem l e = ranged_from (fields_of l.letter) l.fields e

-- a unit's levels, and its curve
pub record UnitRanged (u : declared.Unit) : Type 0 where
  pub g : Inside unit_level u.g
  pub h : Inside unit_level u.h
  pub n : Inside unit_level u.n
  pub o : Inside unit_level u.o
  pub e : Inside unit_level u.e
  pub curve : curve_inside u.curve ≡ true

pub record CurveRanged (x : HeatCurve) : Type 0 where
  pub k : Inside unit_level x.k
  pub a : Inside coefficient_a x.a
  pub b : Inside coefficient_b x.b
  pub c : Inside coefficient_c x.c
  pub r : Inside heat_rate x.r

pub curve_from : (c : HeatCurve) → curve_inside c ≡ true → CurveRanged c
curve_from c e =
    let p = both_true _ (inside heat_rate c.r) e in
    let q = both_true _ (inside coefficient_c c.c) p.0 in
    let s = both_true _ (inside coefficient_b c.b) q.0 in
    let t = both_true (inside unit_level c.k) (inside coefficient_a c.a) s.0 in
    record {
      k = inside_from unit_level c.k t.0;
      a = inside_from coefficient_a c.a t.1;
      b = inside_from coefficient_b c.b s.1;
      c = inside_from coefficient_c c.c q.1;
      r = inside_from heat_rate c.r p.1;
    }

abbrev pub PlantRanged : Plant → Type 0
PlantRanged (U u) = UnitRanged u
PlantRanged (P g rate) = Inside energy g × Inside purchase_rate rate
PlantRanged (F g) = Inside energy g

plant_ranged : (p : Plant) (cs : Chars) → line_ranged (plant_line p cs) ≡ true → PlantRanged p
plant_ranged (U u) cs e =
    let r = line_ranged_lem (plant_line (U u) cs) e in
    let c = r.1.1.1.1.1 in
    record {
      g = inside_from unit_level u.g r.0;
      h = inside_from unit_level u.h r.1.0;
      n = inside_from unit_level u.n r.1.1.0;
      o = inside_from unit_level u.o r.1.1.1.0;
      e = inside_from unit_level u.e r.1.1.1.1.0;
      curve = rw (c.0, c.1.0, c.1.1.0, c.1.1.1.0, c.1.1.1.1.0);
    }
plant_ranged (P g rate) cs e = let r = line_ranged_lem (plant_line (P g rate) cs) e in (inside_from energy g r.0, inside_from purchase_rate rate r.1.0)
plant_ranged (F g) cs e = inside_from energy g (line_ranged_lem (plant_line (F g) cs) e).0

pub generation_most : (p : Plant) → PlantRanged p → generation p ≤ 2000
generation_most (U u) r = omega (arith, r.g.most)
generation_most (P g rate) r = omega (arith, r.0.most)
generation_most (F g) r = omega (arith, r.most)

-- One entry.

pub record SourceGiven (x : Source) : Type 0 where
  pub within : PlantRanged x.plant
  pub levels : levelled x.plant ≡ true

pub record DeliveryGiven (x : Delivery) : Type 0 where
  pub sequence : Inside sequence x.sequence.0
  pub kind : Inside type x.kind
  pub block : Inside block x.block
  pub mwh : Inside energy x.mwh

pub record DirectGiven (h : Hour) (x : Direct) : Type 0 where
  pub source : x.source < h.nsources
  pub unit : is_unit (source_at h x.source).plant ≡ true
  pub delivery : x.delivery < h.ndeliveries
  pub percent : Inside percent x.percent
  pub basis : basis_inside basis_mwh x.basis ≡ true
  pub below : below_high x.basis (source_at h x.source).plant ≡ true

-- A list's first entries, and blanks after them.

pub record Filled {A : Type 0} (P : A → Type 0) (blank default : A) (xs : List A) (n : ℕ) : Type 0 where
  pub size : length xs ≡ 32
  pub few : n ≤ 32
  pub entry : (i : ℕ) → i < n → P (get_or xs i default)
  pub rest : (i : ℕ) → n ≤ i → i < 32 → get_or xs i default ≡ blank

module _ {A : Type 0} (P : A → Type 0) (blank default : A) where
  filled_none : Filled P blank default (replicate 32 blank) 0
  filled_none = record { size = refl; few = omega arith; entry = λ i lt. absurd (omega arith); rest = λ i lo hi. get_or-replicate 32 i blank default hi }

  filled_more : (xs : List A) (n : ℕ) (x : A) → n < 32 → P x → Filled P blank default xs n → Filled P blank default (set xs n x) (n + 1)
  filled_more xs n x lt p f =
      let size = f.size in
      record {
        size = simp length-set f.size;
        few = omega arith;
        entry = rw (add-one n)
            (below_suc (λ i. P (get_or (set xs n x) i default)) n
            (λ i l. rw (get_or-set_other xs n i x default (λ e. omega arith)) (f.entry i l))
            (rw (get_or-set_same xs n x default (omega arith)) p));
        rest = λ i lo hi. get_or-set_other xs n i x default (λ e. omega arith) ∙ f.rest i (omega arith) hi;
      }

  -- what each entry has, another way
  filled_as : (Q : A → Type 0) (xs : List A) (n : ℕ) → ((i : ℕ) → i < n → Q (get_or xs i default) → P (get_or xs i default)) → Filled Q blank default xs n
      → Filled P blank default xs n
  filled_as Q xs n each f = record { size = f.size; few = f.few; entry = λ i lt. each i lt (f.entry i lt); rest = f.rest }

-- All entries.

pub record Entries (h : Hour) : Type 0 where
  pub sources : Filled SourceGiven blank_source no_source h.sources h.nsources
  pub deliveries : Filled DeliveryGiven blank_delivery no_delivery h.deliveries h.ndeliveries
  pub directs : Filled (DirectGiven h) blank_direct no_direct h.directs h.ndirects
  pub percents : (i : ℕ) → percents_of h i ≤ 100

pub started_entries : (losses : ℕ) → Entries (started losses)
unfolding record_of.started words.sum_to
started_entries losses =
    record {
      sources = filled_none SourceGiven blank_source no_source;
      deliveries = filled_none DeliveryGiven blank_delivery no_delivery;
      directs = filled_none (DirectGiven (started losses)) blank_direct no_direct;
      percents = λ i. omega arith;
    }

source_given : (x : Source) (l : Line) → source_line x ≡ l → line_ranged l ≡ true → levelled x.plant ≡ true → SourceGiven x
source_given x l e r v = record { within = plant_ranged x.plant _ (ap line_ranged e ∙ r); levels = v }

delivery_given : (x : Delivery) → line_ranged (delivery_line x) ≡ true → DeliveryGiven x
delivery_given x e =
    let r = line_ranged_lem (delivery_line x) e in
    record {
      sequence = inside_from sequence x.sequence.0 r.0;
      kind = inside_from type x.kind r.1.0;
      block = inside_from block x.block r.1.1.0;
      mwh = inside_from energy x.mwh r.1.1.1.0;
    }

-- one D line more adds its percents to its unit's
percents_more : (h : Hour) (x : Direct) (i : ℕ) → h.ndirects < length h.directs
    → percents_of (with_direct h x) i ≡ percents_of h i + (when eqb x.source i then x.percent else 0)
percents_more h x i lt = sum_to_set (λ y. when eqb y.source i then y.percent else 0) h.directs no_direct x h.ndirects lt

percents_kept : (h : Hour) (x : Direct) (i : ℕ) → percents_of h i ≤ 100 → percents_of h x.source + x.percent ≤ 100
    → percents_of h i + (when eqb x.source i then x.percent else 0) ≤ 100
percents_kept h x i le more = go (eqb x.source i) refl
  where
    go : (p : Bool) → eqb x.source i ≡ p → percents_of h i + (when p then x.percent else 0) ≤ 100
    go true e = subst (λ (k : ℕ). percents_of h k + x.percent ≤ 100) (eqb-true x.source i e) more
    go false e = omega arith

direct_kept : (h : Hour) (x y : Direct) → DirectGiven h y → DirectGiven (with_direct h x) y
direct_kept h x y d = record { source = d.source; unit = d.unit; delivery = d.delivery; percent = d.percent; basis = d.basis; below = d.below }

entry_kept : (h : Hour) (l : Line) (after : Hour) → Entries h → line_ranged l ≡ true → Entry h l after → Entries after
entry_kept h l after g r (source x e t) =
    rw (← t.is)
    (record {
      sources = filled_more SourceGiven blank_source no_source h.sources h.nsources x t.room (source_given x l e r t.levels) g.sources;
      deliveries = g.deliveries;
      directs = filled_as (DirectGiven (with_source h x)) blank_direct no_direct (DirectGiven h) h.directs h.ndirects (λ i lt d. absurd (omega (arith, t.alone))) g.directs;
      percents = g.percents;
    })
entry_kept h l after g r (delivery x e t) =
    rw (← t.is)
    (record {
      sources = g.sources;
      deliveries = filled_more DeliveryGiven blank_delivery no_delivery h.deliveries h.ndeliveries x t.room (delivery_given x (ap line_ranged e ∙ r)) g.deliveries;
      directs = filled_as (DirectGiven (with_delivery h x)) blank_direct no_direct (DirectGiven h) h.directs h.ndirects (λ i lt d. absurd (omega (arith, t.alone))) g.directs;
      percents = g.percents;
    })
entry_kept h l after g r (direct x e t) =
    let v = line_ranged_lem (direct_line h x) (ap line_ranged e ∙ r) in
    let given : DirectGiven (with_direct h x) x = record { source = t.source; unit = t.unit; delivery = t.delivery; percent = inside_from percent x.percent v.1.0; basis = v.0; below = t.below } in
    rw (← t.is)
    (record {
      sources = g.sources;
      deliveries = g.deliveries;
      directs = filled_more (DirectGiven (with_direct h x)) blank_direct no_direct h.directs h.ndirects x t.room given
          (filled_as (DirectGiven (with_direct h x)) blank_direct no_direct (DirectGiven h) h.directs h.ndirects (λ i lt. direct_kept h x (direct_at h i)) g.directs);
      percents = λ i. rw (percents_more h x i (omega (arith, t.room, g.directs.size))) (percents_kept h x i (g.percents i) t.percents);
    })

pub taken_entries : (h : Hour) (l : Line) (after : Hour) → Entries h → Taken h l after → Entries after
taken_entries h l after g t = entry_kept h l after g t.within t.entry
