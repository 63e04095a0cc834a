-- The tables of an hour stay its tables as it grows: at each line that is let through, its numbers are set in them.
--     kept_started                               an hour without entries has tables of zeros
--     kept_source, kept_delivery, kept_direct    one entry more
--     entry_named, entry_unnamed                 what the answer to a D line tells
use Rattle.std.specs.Prelude.{◌≡◌, refl, Bool, true, false, not, ◌&&◌, List, [], ℕ, ◌+◌, ◌<◌, ◌≤◌, leb, ltb, eqb, get_or, set, replicate, is_some, Option, Some, None, Ok, Err}
use Rattle.std.proofs.Common.{ap, sym, ◌∙◌, add-one, arith, length-set, get_or-set_same, get_or-set_other, leb-false, ltb-false, eqb-true, eq-eqb, ne_eqb}
use Rattle.std.proofs.Math.Option.{Option as Maybe, none, some}
use Rattle.std.proofs.lemmas.List.{get_or-replicate}
use Rattle.std.proofs.lemmas.Bool.{not-false}
use Rattle.rules.specs.Words as words
use Rattle.rules.specs.Words.{when◌then◌else◌, sum_to}
use Rattle.rules.specs.Ranges.{unit_level}
use Rattle.rules.specs.Refusals.{Outcome, accepted, refused}
use Rattle.rules.specs.Group.{no_direct}
use Rattle.rules.specs.Record as record_of
use Rattle.rules.specs.Record.{no_source, source_at, delivery_at, started, with_source, with_delivery, with_direct, plant_line}
use Rattle.rules.specs.Sequences.{no_delivery}
use Rattle.rules.specs.Reading.{same_basis, basis_kept, percents_of}
use Rattle.rules.specs.declared.Plant.{Plant}
use Rattle.rules.specs.declared.Plant.TheVariants.{Unit as U, Purchase as P, Fixed as F}
use Rattle.rules.specs.declared.Basis.{Basis}
use Rattle.rules.specs.declared.Basis.TheVariants.{Low, Generation, Mwh}
use Rattle.rules.specs.declared.Source.{Source}
use Rattle.rules.specs.declared.Delivery.{Delivery}
use Rattle.rules.specs.declared.Direct.{Direct}
use Rattle.rules.specs.declared.Hour.{Hour}
use Rattle.rules.specs.declared.Refusal.{Refusal}
use Rattle.laws.specs.Choices.{true_not_false, both_true, refused_not_accepted, accepted_same, refuse_passed, then_passed}
use Rattle.laws.specs.Lists.{sum_to_set}
use Rattle.laws.specs.Sums.{below_suc}
use Rattle.roundtrip.specs.Fields.{inside_from}
use Rattle.roundtrip.specs.Entries.{line_ranged_lem}
use Rattle.ranges.specs.Inside as tests
use Rattle.ranges.specs.Inside.{plant_inside}
use Rattle.line_rules.specs.Spellings.{spelling_of, spot_of, spelling_at, spelling_to}
use Rattle.line_rules.specs.Tried as tried
use Rattle.line_rules.specs.Tried.{entry_of, counts_of, next_line, label_tried, source_tried, delivery_tried, Tables, unit_high, basis_code, code_leaves, below_most, pair_found, on_pair, direct_tried}
use Rattle.line_rules.specs.Finds.{truths_same, and_false, and_true, all_to_set}
use Rattle.line_rules.specs.Pairs.{pair_within}
use Rattle.line_rules.specs.SpellingTells.{Labelled}
use Rattle.line_rules.specs.Kept.{spelled_none, spelled_more, High, Kept}
use Rattle.line_rules.specs.declared.Spelling.{Spelling}
use Rattle.line_rules.specs.declared.Counts.{Counts}
use Rattle.line_rules.specs.declared.DirectLine.{DirectLine}

-- What the answer to a D line tells.

pub entry_named : (o : Outcome Direct) (y : Direct) → entry_of o ≡ Ok y → o ≡ accepted y
entry_named (accepted x) y e = let q : x ≡ y = cc in ap accepted q
entry_named (refused r) y e = absurd cc

pub entry_unnamed : (o : Outcome Direct) (r : Refusal) → entry_of o ≡ Err r → o ≡ refused r
entry_unnamed (accepted x) r e = absurd cc
entry_unnamed (refused s) r e = let q : s ≡ r = cc in ap refused q

-- What a line that is let through has shown.

-- a source or T line, in a class with n entries
pub record Let (in_range : Bool) (n : ℕ) (spelling : Spelling) (lo hi : List ℕ) : Type 0 where
  pub within : in_range ≡ true
  pub room : n < 32
  pub unused : spelling_to lo hi spelling n ≡ none

not_found : (x : Maybe ℕ) → is_some (spot_of x) ≡ false → x ≡ none
not_found none e = refl
not_found (some i) e = true_not_false e

label_let : (line : ℕ) (in_range : Bool) (n : ℕ) (spelling : Spelling) (lo hi : List ℕ) → label_tried line in_range n spelling lo hi ≡ accepted tt → Let in_range n spelling lo hi
unfolding tried.label_tried
label_let line in_range n spelling lo hi e =
    let a = refuse_passed (not in_range) _ _ tt e in
    let b = refuse_passed (leb 32 n) _ _ tt a.1 in
    let c = refuse_passed (is_some (spot_of (spelling_to lo hi spelling n))) _ _ tt b.1 in
    record { within = not-false in_range a.0; room = leb-false 32 n b.0; unused = not_found _ c.0 }

pub source_let : (n : Counts) (in_range : Bool) (plant : Plant) (spelling : Spelling) (lo hi : List ℕ) → source_tried n in_range plant spelling lo hi ≡ accepted tt
    → Let in_range n.sources spelling lo hi
unfolding tried.source_tried
source_let n in_range plant spelling lo hi e =
    let a = refuse_passed (not (eqb (n.deliveries + n.directs) 0)) _ _ tt e in
    let b = then_passed (label_tried (next_line n) in_range n.sources spelling lo hi) _ tt a.1 in
    label_let (next_line n) in_range n.sources spelling lo hi b.first

pub delivery_let : (n : Counts) (in_range : Bool) (spelling : Spelling) (lo hi : List ℕ) → delivery_tried n in_range spelling lo hi ≡ accepted tt
    → Let in_range n.deliveries spelling lo hi
unfolding tried.delivery_tried
delivery_let n in_range spelling lo hi e =
    label_let (next_line n) in_range n.deliveries spelling lo hi (refuse_passed (not (eqb n.directs 0)) _ _ tt e).1

pub record DirectLet (n : Counts) (in_range : Bool) (x : DirectLine) (t : Tables) (y : Direct) : Type 0 where
  pub within : in_range ≡ true
  pub room : n.directs < 32
  pub basis : y.basis ≡ x.basis
  pub percent : y.percent ≡ x.percent
  pub source : y.source < n.sources
  pub delivery : y.delivery < n.deliveries
  pub unit_spelling : spelling_at t.slo t.shi y.source ≡ x.unit
  pub delivery_spelling_lem : spelling_at t.tlo t.thi y.delivery ≡ x.delivery
  pub leaves : code_leaves (get_or t.based y.source 0) y.basis ≡ true
  pub total : get_or t.percents y.source 0 + y.percent ≤ 100

record Found (o : Option (ℕ × ℕ)) (after : ℕ → ℕ → Outcome Direct) (y : Direct) : Type 0 where
  i : ℕ
  j : ℕ
  is : o ≡ Some (i, j)
  goes : after i j ≡ accepted y

found_passed : (o : Option (ℕ × ℕ)) (r : Refusal) (after : ℕ → ℕ → Outcome Direct) (y : Direct) → on_pair o r after ≡ accepted y → Found o after y
found_passed None r after y e = refused_not_accepted r y e
found_passed (Some (i, j)) r after y e = record { i = i; j = j; is = refl; goes = e }

pub direct_let : (n : Counts) (in_range : Bool) (x : DirectLine) (t : Tables) (y : Direct) → direct_tried n in_range x t ≡ accepted y → DirectLet n in_range x t y
unfolding tried.direct_tried
direct_let n in_range x t y e =
    let a = refuse_passed (not in_range) _ _ y e in
    let b = refuse_passed (leb 32 n.directs) _ _ y a.1 in
    let c = found_passed (pair_found n x t.slo t.shi t.tlo t.thi t.high) _ _ y b.1 in
    let d = pair_within c.i c.j n x t.slo t.shi t.tlo t.thi t.high c.is in
    let g = refuse_passed (not (code_leaves (get_or t.based c.i 0) x.basis && below_most x.basis (get_or t.high c.i 0))) _ _ y c.goes in
    let p = refuse_passed (ltb 100 (get_or t.percents c.i 0 + x.percent)) _ _ y g.1 in
    let made : record { basis = x.basis; percent = x.percent; source = c.i; delivery = c.j } ≡ y = accepted_same _ y p.1 in
    rw (← made)
    (record {
      within = not-false in_range a.0;
      room = leb-false 32 n.directs b.0;
      basis = refl;
      percent = refl;
      source = d.source;
      delivery = d.delivery;
      unit_spelling = d.unit_spelling;
      delivery_spelling_lem = d.delivery_spelling_lem;
      leaves = (both_true (code_leaves (get_or t.based c.i 0) x.basis) _ (not-false _ g.0)).0;
      total = ltb-false 100 (get_or t.percents c.i 0 + x.percent) p.0;
    })

-- The start.

abbrev pub no_tables : Tables
no_tables =
    record {
      slo = replicate 32 0;
      shi = replicate 32 0;
      tlo = replicate 32 0;
      thi = replicate 32 0;
      high = replicate 32 0;
      based = replicate 32 0;
      percents = replicate 32 0;
    }

pub kept_started : (losses : ℕ) → Kept (started losses) no_tables
unfolding record_of.started words.all_to words.sum_to
kept_started losses =
    record {
      few = record { sources = omega arith; deliveries = omega arith; directs = omega arith };
      sources_size = refl;
      deliveries_size = refl;
      directs_size = refl;
      high_size = refl;
      based_size = refl;
      percents_size = refl;
      sources = spelled_none _;
      deliveries = spelled_none _;
      high = λ i l. absurd (omega arith);
      based = λ i l b. rw (get_or-replicate {A = ℕ} 32 i 0 0 l);
      percents = λ i l. sym (get_or-replicate 32 i 0 0 l);
    }

-- A source more.

-- a unit in its ranges has a high that is not 0
high_inside : (p : Plant) → plant_inside p ≡ true → High p (unit_high p)
unfolding tests.plant_inside
high_inside (U u) e =
    let r = inside_from unit_level u.h (line_ranged_lem (plant_line (U u) []) e).1.0 in
    record { is = refl; unit = ap not (sym (ne_eqb u.h 0 (λ z. omega (arith, r.least)))) }
high_inside (P g rate) e = record { is = refl; unit = refl }
high_inside (F g) e = record { is = refl; unit = refl }

abbrev pub source_added : Tables → ℕ → Source → Tables
source_added t n x =
    record {
      slo = set t.slo n (spelling_of x.label).lo;
      shi = set t.shi n (spelling_of x.label).hi;
      tlo = t.tlo;
      thi = t.thi;
      high = set t.high n (unit_high x.plant);
      based = t.based;
      percents = t.percents;
    }

pub kept_source : (h : Hour) (t : Tables) → Kept h t → (in_range : Bool) (x : Source) → Labelled x.label → (in_range ≡ true → plant_inside x.plant ≡ true)
    → source_tried (counts_of h) in_range x.plant (spelling_of x.label) t.slo t.shi ≡ accepted tt → Kept (with_source h x) (source_added t h.nsources x)
kept_source h t k in_range x p w e =
    let s = source_let (counts_of h) in_range x.plant (spelling_of x.label) t.slo t.shi e in
    let n = h.nsources in
    let room : n < 32 = s.room in
    let size = k.sources_size in
    let highs = k.high_size in
    let other : (i : ℕ) → i < n → get_or (set h.sources n x) i no_source ≡ source_at h i = λ i l. get_or-set_other h.sources n i x no_source (λ e. omega arith) in
    let same : get_or (set h.sources n x) n no_source ≡ x = get_or-set_same h.sources n x no_source (omega arith) in
    record {
      few = record { sources = omega arith; deliveries = k.few.deliveries; directs = k.few.directs };
      sources_size = simp length-set k.sources_size;
      deliveries_size = k.deliveries_size;
      directs_size = k.directs_size;
      high_size = simp length-set k.high_size;
      based_size = k.based_size;
      percents_size = k.percents_size;
      sources = spelled_more (λ i. (source_at h i).label) (λ i. (source_at (with_source h x) i).label) n t.slo t.shi x.label room k.sources
          (λ i l. ap (λ (y : Source). y.label) (other i l)) (ap (λ (y : Source). y.label) same) s.unused p;
      deliveries = k.deliveries;
      high = rw (add-one n)
          (below_suc (λ i. High (source_at (with_source h x) i).plant (get_or (set t.high n (unit_high x.plant)) i 0)) n
          (λ i l. rw (other i l, get_or-set_other t.high n i (unit_high x.plant) 0 (λ e. omega arith)) (k.high i l))
          (rw (same, get_or-set_same t.high n (unit_high x.plant) 0 (omega arith)) (high_inside x.plant (w s.within))));
      based = k.based;
      percents = k.percents;
    }

-- A delivery more.

abbrev pub delivery_added : Tables → ℕ → Delivery → Tables
delivery_added t n x =
    record {
      slo = t.slo;
      shi = t.shi;
      tlo = set t.tlo n (spelling_of x.label).lo;
      thi = set t.thi n (spelling_of x.label).hi;
      high = t.high;
      based = t.based;
      percents = t.percents;
    }

pub kept_delivery : (h : Hour) (t : Tables) → Kept h t → (in_range : Bool) (x : Delivery) → Labelled x.label
    → delivery_tried (counts_of h) in_range (spelling_of x.label) t.tlo t.thi ≡ accepted tt → Kept (with_delivery h x) (delivery_added t h.ndeliveries x)
kept_delivery h t k in_range x p e =
    let s = delivery_let (counts_of h) in_range (spelling_of x.label) t.tlo t.thi e in
    let n = h.ndeliveries in
    let room : n < 32 = s.room in
    let size = k.deliveries_size in
    record {
      few = record { sources = k.few.sources; deliveries = omega arith; directs = k.few.directs };
      sources_size = k.sources_size;
      deliveries_size = simp length-set k.deliveries_size;
      directs_size = k.directs_size;
      high_size = k.high_size;
      based_size = k.based_size;
      percents_size = k.percents_size;
      sources = k.sources;
      deliveries = spelled_more (λ i. (delivery_at h i).label) (λ i. (delivery_at (with_delivery h x) i).label) n t.tlo t.thi x.label room k.deliveries
          (λ i l. ap (λ (y : Delivery). y.label) (get_or-set_other h.deliveries n i x no_delivery (λ e. omega arith)))
          (ap (λ (y : Delivery). y.label) (get_or-set_same h.deliveries n x no_delivery (omega arith))) s.unused p;
      high = k.high;
      based = k.based;
      percents = k.percents;
    }

-- A D line more.

-- the code of a basis tells it
code_above : (b : Basis) → 0 < basis_code b
code_above Low = omega arith
code_above Generation = omega arith
code_above (Mwh v) = omega arith

code_tells : (a b : Basis) → same_basis a b ≡ eqb (basis_code a) (basis_code b)
code_tells Low Low = refl
code_tells Low Generation = refl
code_tells Low (Mwh v) = sym (ne_eqb 1 (v + 3) (λ e. omega arith))
code_tells Generation Low = refl
code_tells Generation Generation = refl
code_tells Generation (Mwh v) = sym (ne_eqb 2 (v + 3) (λ e. omega arith))
code_tells (Mwh v) Low = sym (ne_eqb (v + 3) 1 (λ e. omega arith))
code_tells (Mwh v) Generation = sym (ne_eqb (v + 3) 2 (λ e. omega arith))
code_tells (Mwh v) (Mwh w) =
    truths_same (eqb v w) (eqb (v + 3) (w + 3)) (λ e. eq-eqb (v + 3) (w + 3) (omega (arith, eqb-true v w e))) (λ e. eq-eqb v w (omega (arith, eqb-true (v + 3) (w + 3) e)))

-- after a D line of basis a, its code leaves just what the code before it and that line leave
code_kept : (code : ℕ) (a b : Basis) → code_leaves code a ≡ true → (code_leaves code b && same_basis a b) ≡ code_leaves (basis_code a) b
code_kept code a b e =
    let z = ne_eqb (basis_code a) 0 (λ q. omega (arith, code_above a)) in
    rw (z, ← (code_tells a b)) (go (same_basis a b) refl)
  where
    go : (s : Bool) → same_basis a b ≡ s → (code_leaves code b && same_basis a b) ≡ same_basis a b
    go false q = rw q (and_false (code_leaves code b))
    go true q =
        let same : basis_code a ≡ basis_code b = eqb-true (basis_code a) (basis_code b) (sym (code_tells a b) ∙ q) in
        rw (q, ← same, e)

abbrev pub direct_added : Tables → Direct → Tables
direct_added t y =
    record {
      slo = t.slo;
      shi = t.shi;
      tlo = t.tlo;
      thi = t.thi;
      high = t.high;
      based = set t.based y.source (basis_code y.basis);
      percents = set t.percents y.source (get_or t.percents y.source 0 + y.percent);
    }

module _ (h : Hour) (t : Tables) (k : Kept h t) (y : Direct) (room : h.ndirects < 32) (source : y.source < 32)
    (leaves : code_leaves (get_or t.based y.source 0) y.basis ≡ true) where
  -- at the line's own source, and at another
  based_more : (i : ℕ) → i < 32 → (b : Basis) → basis_kept (with_direct h y) i b ≡ code_leaves (get_or (set t.based y.source (basis_code y.basis)) i 0) b
  based_more i l b =
      let size = k.directs_size in
      all_to_set (λ z. when eqb z.source i then same_basis z.basis b else true) h.directs no_direct y h.ndirects (omega arith)
      ∙ ap (λ (z : Bool). z && (when eqb y.source i then same_basis y.basis b else true)) (k.based i l b) ∙ go (eqb y.source i) refl
    where
      go : (z : Bool) → eqb y.source i ≡ z → (code_leaves (get_or t.based i 0) b && (when z then same_basis y.basis b else true))
          ≡ code_leaves (get_or (set t.based y.source (basis_code y.basis)) i 0) b
      go true e =
          let size = k.based_size in
          rw (← (eqb-true y.source i e), get_or-set_same t.based y.source (basis_code y.basis) 0 (omega arith))
          (code_kept (get_or t.based y.source 0) y.basis b leaves)
      go false e =
          rw (get_or-set_other t.based y.source i (basis_code y.basis) 0 (λ q. true_not_false (sym (eq-eqb y.source i (sym q)) ∙ e)))
          (and_true (code_leaves (get_or t.based i 0) b))

  percents_more : (i : ℕ) → i < 32 → percents_of (with_direct h y) i ≡ get_or (set t.percents y.source (get_or t.percents y.source 0 + y.percent)) i 0
  percents_more i l =
      let size = k.directs_size in
      sum_to_set (λ z. when eqb z.source i then z.percent else 0) h.directs no_direct y h.ndirects (omega arith)
      ∙ ap (λ (n : ℕ). n + (when eqb y.source i then y.percent else 0)) (k.percents i l) ∙ go (eqb y.source i) refl
    where
      go : (z : Bool) → eqb y.source i ≡ z → get_or t.percents i 0 + (when z then y.percent else 0)
          ≡ get_or (set t.percents y.source (get_or t.percents y.source 0 + y.percent)) i 0
      go true e =
          let size = k.percents_size in
          rw (← (eqb-true y.source i e), get_or-set_same t.percents y.source (get_or t.percents y.source 0 + y.percent) 0 (omega arith))
      go false e =
          rw (get_or-set_other t.percents y.source i (get_or t.percents y.source 0 + y.percent) 0 (λ q. true_not_false (sym (eq-eqb y.source i (sym q)) ∙ e)))
          (omega arith)

pub kept_direct : (h : Hour) (t : Tables) → Kept h t → (in_range : Bool) (x : DirectLine) (y : Direct) → direct_tried (counts_of h) in_range x t ≡ accepted y
    → Kept (with_direct h y) (direct_added t y)
kept_direct h t k in_range x y e =
    let d = direct_let (counts_of h) in_range x t y e in
    let source : y.source < 32 = omega (arith, d.source, k.few.sources) in
    record {
      few = record { sources = k.few.sources; deliveries = k.few.deliveries; directs = omega (arith, d.room) };
      sources_size = k.sources_size;
      deliveries_size = k.deliveries_size;
      directs_size = simp length-set k.directs_size;
      high_size = k.high_size;
      based_size = simp length-set k.based_size;
      percents_size = simp length-set k.percents_size;
      sources = k.sources;
      deliveries = k.deliveries;
      high = k.high;
      based = based_more h t k y d.room source d.leaves;
      percents = percents_more h t k y d.room source d.leaves;
    }
