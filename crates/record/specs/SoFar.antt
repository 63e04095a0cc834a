-- The hour that a record's first entries make, and its tables: an entry that passes makes the next, and one that was fed passes.
use Rattle.std.specs.Prelude.{is_ok, Result, Ok, Err, Some, None, ◌≡◌, Bool, false, not, ◌&&◌, List, ℕ, suc, ◌+◌, ◌<◌, leb, ltb, eqb, get_or, replicate}
use Rattle.std.proofs.Math.Path.{refl, ap, subst}
use Rattle.std.proofs.Common.{sym, ◌∙◌, add-one, arith}
use Rattle.std.proofs.Math.Bool.{true}
use Rattle.std.proofs.lemmas.List.{length-replicate}
use Rattle.std.proofs.Math.Seq.{get_or-set_same}
use borrow.Author.Tests.{lt-ltb}
use Rattle.rules.specs.Words.{when◌then◌else◌}
use Rattle.rules.specs.Answers.{verdict_of}
use Rattle.rules.specs.Refusals.{Outcome, accepted, refused, refuse, and_then}
use Rattle.rules.specs.Fields.{is_label}
use Rattle.rules.specs.Lines as lines
use Rattle.rules.specs.Lines.{Line}
use Rattle.rules.specs.Sequences.{no_delivery}
use Rattle.rules.specs.Record as record_of
use Rattle.rules.specs.Record.{chars, label_of, no_source, source_at, delivery_at, direct_at, blank_source, blank_delivery, blank_direct, started, with_source, with_delivery, with_direct, plant_line, source_line, delivery_line, direct_line}
use Rattle.rules.specs.Reading as reading
use Rattle.rules.specs.Reading.{source_taken, delivery_taken, direct_taken, taken, feed}
use Rattle.rules.specs.declared.Label.{Label}
use Rattle.rules.specs.declared.Plant.{Plant}
use Rattle.rules.specs.declared.Plant.TheVariants.{Unit as U, Purchase as P, Fixed as F}
use Rattle.rules.specs.declared.Source.{Source}
use Rattle.rules.specs.declared.Delivery.{Delivery}
use Rattle.rules.specs.declared.Direct.{Direct}
use Rattle.rules.specs.declared.Hour.{Hour}
use Rattle.rules.specs.declared.Refusal.{Refusal}
use Rattle.rules.specs.declared.Refusal.TheVariants.{Range, Full, Names, OtherBasis, Percents}
use Rattle.laws.specs.Answers.{verdict_accepted}
use Rattle.laws.specs.Choices.{false_not_true, both_true, refused_not_accepted, accepted_same, then_passed}
use Rattle.roundtrip.specs.Lines.{line_labelled}
use Rattle.ranges.specs.Inside as inside
use Rattle.ranges.specs.Inside.{plant_inside, delivery_inside, direct_inside}
use Rattle.line_rules.specs.Spellings.{spelling_of, spelling_at}
use Rattle.line_rules.specs.Tried as tried
use Rattle.line_rules.specs.Tried.{next_line, source_tried, delivery_tried, Tables, below_most, code_leaves, on_pair, direct_tried}
use Rattle.line_rules.specs.SpellingTells.{Labelled, labelled}
use Rattle.line_rules.specs.Kept.{spelled_at, Kept}
use Rattle.line_rules.specs.Pairs.{pair_at}
use Rattle.line_rules.specs.TriedIsTaken.{source_tried_lem, delivery_tried_lem, direct_tried_lem}
use Rattle.line_rules.specs.TablesKept.{kept_started, kept_source, kept_delivery, kept_direct}
use Rattle.line_rules.specs.declared.Counts.{Counts}
use Rattle.line_rules.specs.declared.DirectLine.{DirectLine}
use Rattle.record.specs.Shape.{own_label}
use Rattle.record.specs.ShapeTells.{own_labelled, labelled_own}
use Rattle.record.specs.Own as own
use Rattle.record.specs.Own.{fill_to, tables_to, counts, slos_to, shis_to, tlos_to, this_to, source_own_at, delivery_own_at, direct_own_at}
use Rattle.record.specs.Fill.{fill_to_made}
use Rattle.record.specs.OwnTells.{direct_own_lem}
use Rattle.record.specs.Turns.{Extends, fed_extends, Step}

-- the first i sources, j deliveries and k D entries, and blanks after them
abbrev pub so_far : Hour → ℕ → ℕ → ℕ → Hour
so_far h i j k =
    record {
      losses = h.losses;
      nsources = i;
      ndeliveries = j;
      ndirects = k;
      sources = fill_to (source_at h) (replicate 32 blank_source) i;
      deliveries = fill_to (delivery_at h) (replicate 32 blank_delivery) j;
      directs = fill_to (direct_at h) (replicate 32 blank_direct) k;
    }

-- an outcome whose verdict accepts
pub accepts_told : {A : Type 0} (o : Outcome A) → is_ok (verdict_of o) ≡ true → (a : A) × (o ≡ accepted a)
accepts_told o e = verdict_accepted o (go (verdict_of o) e)
  where
    go : (v : Result (Unit {0}) Refusal) → is_ok v ≡ true → v ≡ Ok tt
    go (Ok tt) e = refl
    go (Err r) e = false_not_true e

-- what was taken past the tables was let through by them
passed_back : (o : Outcome (Unit {0})) (after mid : Hour) → and_then o (λ u. accepted after) ≡ accepted mid → (o ≡ accepted tt) × (after ≡ mid)
passed_back (accepted u) after mid e = (refl, accepted_same after mid e)
passed_back (refused r) after mid e = refused_not_accepted r mid e

-- an entry that is the one with its label padded has a label, and passes as that one does
own_back : {A : Type 0} (label : A → Label) (x x' : A) → x ≡ x' → label x' ≡ label_of (chars (label x)) → is_label (chars (label x)) ≡ true
    → (tried : Label → Outcome (Unit {0})) → tried (label x') ≡ accepted tt → (own_label (label x) && is_ok (verdict_of (tried (label x)))) ≡ true
own_back label x x' e p is tried t =
    let same : label x ≡ label x' = ap label e in
    rw (labelled_own (label x) (record { label = is; padded = sym (same ∙ p) }), ap tried same ∙ t)

module _ (h : Hour) where
  pub started_is : started h.losses ≡ so_far h 0 0 0
  unfolding record_of.started own.fill_to
  started_is = refl

  pub started_kept : Kept (so_far h 0 0 0) (tables_to h 0 0 0)
  unfolding record_of.started own.fill_to own.based_to own.percents_to
  started_kept = kept_started h.losses

-- Sources.

-- a source's line is taken as the source with its label padded
plant_taken : (so : Hour) (p : Plant) (l : Label) → taken so (plant_line p (chars l)) ≡ source_taken so (plant_inside p) (record { plant = p; label = label_of (chars l) })
unfolding reading.taken lines.ranged inside.plant_inside
plant_taken so (U u) l = refl
plant_taken so (P g rate) l = refl
plant_taken so (F g) l = refl

plant_labelled : (p : Plant) (l : Label) → line_labelled (plant_line p (chars l)) ≡ (is_label (chars l) && true)
unfolding lines.labelled
plant_labelled (U u) l = refl
plant_labelled (P g rate) l = refl
plant_labelled (F g) l = refl

module _ (h : Hour) (i : ℕ) (k : Kept (so_far h i 0 0) (tables_to h i 0 0)) where
  abbrev source_tried_as : Label → Outcome (Unit {0})
  source_tried_as l = source_tried (counts i 0 0) (plant_inside (source_at h i).plant) (source_at h i).plant (spelling_of l) (slos_to h.sources i) (shis_to h.sources i)

  abbrev source_as : Label → Source
  source_as l = record { plant = (source_at h i).plant; label = l }

  source_goes : (l : Label) → label_of (chars (source_at h i).label) ≡ l → Labelled l
      → taken (so_far h i 0 0) (source_line (source_at h i)) ≡ and_then (source_tried_as l) (λ u. accepted (with_source (so_far h i 0 0) (source_as l)))
  source_goes l e p =
      plant_taken (so_far h i 0 0) (source_at h i).plant (source_at h i).label
      ∙ ap (λ (l : Label). source_taken (so_far h i 0 0) (plant_inside (source_at h i).plant) (source_as l)) e
      ∙ source_tried_lem (so_far h i 0 0) (tables_to h i 0 0) k (plant_inside (source_at h i).plant) (source_as l) (source_at h i).plant p (λ e. refl)

  source_next : with_source (so_far h i 0 0) (source_at h i) ≡ so_far h (suc i) 0 0
  unfolding own.fill_to
  source_next = rw (add-one i)

  pub source_step_lem : source_own_at h.sources i ≡ true → Step (λ i. source_line (source_at h i)) (λ i. so_far h i 0 0) (λ i. tables_to h i 0 0) i
  unfolding own.source_own own.fill_to
  source_step_lem e =
      let b = both_true (own_label (source_at h i).label) _ e in
      let p = own_labelled (source_at h i).label b.0 in
      let t = (accepts_told (source_tried_as (source_at h i).label) b.1).1 in
      record {
        labels = plant_labelled (source_at h i).plant (source_at h i).label ∙ rw p.label;
        goes = source_goes (source_at h i).label p.padded p ∙ rw t (ap accepted source_next);
        kept = subst (λ (m : Hour). Kept m (tables_to h (suc i) 0 0)) source_next
            (kept_source (so_far h i 0 0) (tables_to h i 0 0) k (plant_inside (source_at h i).plant) (source_at h i) p (λ e. e) t);
      }

  pub source_back : i < 32 → line_labelled (source_line (source_at h i)) ≡ true → (mid : Hour) (more : List Line) → taken (so_far h i 0 0) (source_line (source_at h i)) ≡ accepted mid
      → feed mid more ≡ accepted h → source_own_at h.sources i ≡ true
  unfolding own.source_own
  source_back lt lb mid more e f =
      let l = (source_at h i).label in
      let is = (both_true (is_label (chars l)) true (sym (plant_labelled (source_at h i).plant l) ∙ lb)).0 in
      let a = passed_back (source_tried_as (label_of (chars l))) _ mid (sym (source_goes (label_of (chars l)) refl (labelled (chars l) is)) ∙ e) in
      let size = k.sources_size in
      let stays = (subst (λ (m : Hour). Extends m h) (sym a.1) (fed_extends more mid h f)).sources in
      let same : source_at h i ≡ source_as (label_of (chars l)) = stays.same i (omega arith) ∙ get_or-set_same (so_far h i 0 0).sources i (source_as (label_of (chars l))) no_source (omega arith) in
      own_back (λ (x : Source). x.label) (source_at h i) (source_as (label_of (chars l))) same refl is source_tried_as a.0

-- Deliveries.

delivery_taken_lem : (so : Hour) (x : Delivery) → taken so (delivery_line x)
    ≡ delivery_taken so (delivery_inside x.sequence.0 x.kind x.block x.mwh) (record { sequence = x.sequence; kind = x.kind; block = x.block; mwh = x.mwh; label = label_of (chars x.label) })
unfolding reading.taken lines.ranged inside.delivery_inside
delivery_taken_lem so x = refl

delivery_labelled : (x : Delivery) → line_labelled (delivery_line x) ≡ (is_label (chars x.label) && true)
unfolding lines.labelled
delivery_labelled x = refl

module _ (h : Hour) (j : ℕ) (k : Kept (so_far h h.nsources j 0) (tables_to h h.nsources j 0)) where
  abbrev so : Hour
  so = so_far h h.nsources j 0

  abbrev in_range : Bool
  in_range = delivery_inside (delivery_at h j).sequence.0 (delivery_at h j).kind (delivery_at h j).block (delivery_at h j).mwh

  abbrev delivery_tried_as : Label → Outcome (Unit {0})
  delivery_tried_as l = delivery_tried (counts h.nsources j 0) in_range (spelling_of l) (tlos_to h.deliveries j) (this_to h.deliveries j)

  abbrev delivery_as : Label → Delivery
  delivery_as l = record { sequence = (delivery_at h j).sequence; kind = (delivery_at h j).kind; block = (delivery_at h j).block; mwh = (delivery_at h j).mwh; label = l }

  delivery_goes : (l : Label) → label_of (chars (delivery_at h j).label) ≡ l → Labelled l
      → taken so (delivery_line (delivery_at h j)) ≡ and_then (delivery_tried_as l) (λ u. accepted (with_delivery so (delivery_as l)))
  delivery_goes l e p =
      delivery_taken_lem so (delivery_at h j) ∙ ap (λ (l : Label). delivery_taken so in_range (delivery_as l)) e
      ∙ delivery_tried_lem so (tables_to h h.nsources j 0) k in_range (delivery_as l) p

  delivery_next : with_delivery so (delivery_at h j) ≡ so_far h h.nsources (suc j) 0
  unfolding own.fill_to
  delivery_next = rw (add-one j)

  pub delivery_step_lem : delivery_own_at h.nsources h.deliveries j ≡ true
      → Step (λ j. delivery_line (delivery_at h j)) (λ j. so_far h h.nsources j 0) (λ j. tables_to h h.nsources j 0) j
  unfolding own.delivery_own own.fill_to
  delivery_step_lem e =
      let b = both_true (own_label (delivery_at h j).label) _ e in
      let p = own_labelled (delivery_at h j).label b.0 in
      let t = (accepts_told (delivery_tried_as (delivery_at h j).label) b.1).1 in
      record {
        labels = delivery_labelled (delivery_at h j) ∙ rw p.label;
        goes = delivery_goes (delivery_at h j).label p.padded p ∙ rw t (ap accepted delivery_next);
        kept = subst (λ (m : Hour). Kept m (tables_to h h.nsources (suc j) 0)) delivery_next
            (kept_delivery so (tables_to h h.nsources j 0) k in_range (delivery_at h j) p t);
      }

  pub delivery_back : j < 32 → line_labelled (delivery_line (delivery_at h j)) ≡ true → (mid : Hour) (more : List Line) → taken so (delivery_line (delivery_at h j)) ≡ accepted mid
      → feed mid more ≡ accepted h → delivery_own_at h.nsources h.deliveries j ≡ true
  unfolding own.delivery_own
  delivery_back lt lb mid more e f =
      let l = (delivery_at h j).label in
      let is = (both_true (is_label (chars l)) true (sym (delivery_labelled (delivery_at h j)) ∙ lb)).0 in
      let a = passed_back (delivery_tried_as (label_of (chars l))) _ mid (sym (delivery_goes (label_of (chars l)) refl (labelled (chars l) is)) ∙ e) in
      let size = k.deliveries_size in
      let stays = (subst (λ (m : Hour). Extends m h) (sym a.1) (fed_extends more mid h f)).deliveries in
      let same : delivery_at h j ≡ delivery_as (label_of (chars l)) = stays.same j (omega arith) ∙ get_or-set_same so.deliveries j (delivery_as (label_of (chars l))) no_delivery (omega arith) in
      own_back (λ (x : Delivery). x.label) (delivery_at h j) (delivery_as (label_of (chars l))) same refl is delivery_tried_as a.0

-- D entries.

direct_taken_lem : (so h : Hour) (x : Direct) → taken so (direct_line h x)
    ≡ direct_taken so (direct_inside x.basis x.percent) x.basis x.percent (label_of (chars (source_at h x.source).label)) (label_of (chars (delivery_at h x.delivery).label))
unfolding reading.taken lines.ranged inside.direct_inside
direct_taken_lem so h x = refl

direct_labelled : (h : Hour) (x : Direct) → line_labelled (direct_line h x) ≡ (is_label (chars (source_at h x.source).label) && (is_label (chars (delivery_at h x.delivery).label) && true))
unfolding lines.labelled
direct_labelled h x = refl

pair_if : (b : Bool) (i j : ℕ) (r : Refusal) (after : ℕ → ℕ → Outcome Direct) → on_pair (when b then None else Some (i, j)) r after ≡ (when b then refused r else after i j)
pair_if true i j r after = refl
pair_if false i j r after = refl

-- 3, 4 and 7 to 9 of an entry, by their tests in turn
module _ (line : ℕ) (x : Direct) where
  abbrev ruled : Bool → Bool → Bool → Bool → Bool → Outcome Direct
  ruled in_range full none allowed over =
      refuse (not in_range) (Range line) (refuse full (Full line) (when none then refused (Names line) else refuse (not allowed) (OtherBasis line) (refuse over (Percents line) (accepted x))))

  ruled_goes : (in_range full none allowed over : Bool) → (in_range && (not full && (not none && (allowed && not over)))) ≡ true → ruled in_range full none allowed over ≡ accepted x
  ruled_goes false b c d f e = false_not_true e
  ruled_goes true true c d f e = false_not_true e
  ruled_goes true false true d f e = false_not_true e
  ruled_goes true false false false f e = false_not_true e
  ruled_goes true false false true true e = false_not_true e
  ruled_goes true false false true false e = refl

  ruled_back : (in_range full none allowed over : Bool) (y : Direct) → ruled in_range full none allowed over ≡ accepted y → (in_range && (not full && (not none && (allowed && not over)))) ≡ true
  ruled_back false b c d f y e = refused_not_accepted _ y e
  ruled_back true true c d f y e = refused_not_accepted _ y e
  ruled_back true false true d f y e = refused_not_accepted _ y e
  ruled_back true false false false f y e = refused_not_accepted _ y e
  ruled_back true false false true true y e = refused_not_accepted _ y e
  ruled_back true false false true false y e = refl

module _ (h : Hour) (d : ℕ) (k : Kept (so_far h h.nsources h.ndeliveries d) (tables_to h h.nsources h.ndeliveries d)) where
  abbrev hour : Hour
  hour = so_far h h.nsources h.ndeliveries d

  abbrev counted : Counts
  counted = counts h.nsources h.ndeliveries d

  abbrev tables : Tables
  tables = tables_to h h.nsources h.ndeliveries d

  abbrev entry : Direct
  entry = direct_at h d

  -- its line, by the spellings of the entries that it names
  abbrev own_line : DirectLine
  own_line =
      record {
        basis = entry.basis;
        percent = entry.percent;
        unit = spelling_at tables.slo tables.shi entry.source;
        delivery = spelling_at tables.tlo tables.thi entry.delivery;
      }

  -- its tests: in its ranges, no unit, its basis, its percents
  abbrev within : Bool
  within = direct_inside entry.basis entry.percent

  abbrev missing : Bool
  missing = eqb (get_or tables.high entry.source 0) 0

  abbrev allowed : Bool
  allowed = code_leaves (get_or tables.based entry.source 0) entry.basis && below_most entry.basis (get_or tables.high entry.source 0)

  abbrev over : Bool
  over = ltb 100 (get_or tables.percents entry.source 0 + entry.percent)

  direct_tried_as : Outcome Direct
  direct_tried_as = direct_tried counted within own_line tables

  -- the entries that it names stand in the hour so far
  module _ (source : entry.source < h.nsources) (delivery : entry.delivery < h.ndeliveries) where
    unit_same : source_at hour entry.source ≡ source_at h entry.source
    unit_same = let few = k.few.sources in fill_to_made (source_at h) (replicate 32 blank_source) h.nsources entry.source no_source source (omega (arith, length-replicate 32 blank_source))

    delivery_same : delivery_at hour entry.delivery ≡ delivery_at h entry.delivery
    delivery_same = let few = k.few.deliveries in fill_to_made (delivery_at h) (replicate 32 blank_delivery) h.ndeliveries entry.delivery no_delivery delivery (omega (arith, length-replicate 32 blank_delivery))

    unit_labelled : Labelled (source_at h entry.source).label
    unit_labelled = subst (λ (x : Source). Labelled x.label) unit_same (k.sources.labelled entry.source source)

    delivery_labelled_at : Labelled (delivery_at h entry.delivery).label
    delivery_labelled_at = subst (λ (x : Delivery). Labelled x.label) delivery_same (k.deliveries.labelled entry.delivery delivery)

    direct_goes : taken hour (direct_line h entry) ≡ and_then direct_tried_as (λ y. accepted (with_direct hour y))
    unfolding direct_tried_as
    direct_goes =
        direct_taken_lem hour h entry
        ∙ ap (λ (l : Label). direct_taken hour within entry.basis entry.percent l (label_of (chars (delivery_at h entry.delivery).label))) unit_labelled.padded
        ∙ ap (λ (l : Label). direct_taken hour within entry.basis entry.percent (source_at h entry.source).label l) delivery_labelled_at.padded
        ∙ direct_tried_lem hour tables k within entry.basis entry.percent (source_at h entry.source).label (delivery_at h entry.delivery).label
        own_line unit_labelled delivery_labelled_at
        (k.sources.spelling entry.source source ∙ ap (λ (x : Source). spelling_of x.label) unit_same)
        (k.deliveries.spelling entry.delivery delivery ∙ ap (λ (x : Delivery). spelling_of x.label) delivery_same)
        (λ e. (refl, refl))

    -- the entries found are those that it names
    direct_ruled_lem : direct_tried_as
        ≡ ruled (next_line counted) entry within (leb 32 d) missing allowed over
    unfolding direct_tried_as tried.direct_tried
    direct_ruled_lem =
        rw (pair_at counted own_line tables.slo tables.shi tables.tlo tables.thi tables.high entry.source entry.delivery
        (spelled_at _ _ tables.slo tables.shi k.sources entry.source source)
        (spelled_at _ _ tables.tlo tables.thi k.deliveries entry.delivery delivery))
        (ap (λ (o : Outcome Direct). refuse (not within) (Range (next_line counted)) (refuse (leb 32 d) (Full (next_line counted)) o))
        (pair_if missing entry.source entry.delivery (Names (next_line counted)) _))

    pub direct_back : (mid : Hour) → taken hour (direct_line h entry) ≡ accepted mid → direct_own_at h d ≡ true
    unfolding own.direct_own direct_tried_as
    direct_back mid e =
        let a = then_passed direct_tried_as (λ y. accepted (with_direct hour y)) mid (sym direct_goes ∙ e) in
        rw (lt-ltb entry.source h.nsources source, lt-ltb entry.delivery h.ndeliveries delivery)
        (ruled_back (next_line counted) entry within (leb 32 d) missing allowed over a.mid (sym direct_ruled_lem ∙ a.first))

  direct_next : with_direct hour entry ≡ so_far h h.nsources h.ndeliveries (suc d)
  unfolding own.fill_to
  direct_next = rw (add-one d)

  pub direct_step_lem : direct_own_at h d ≡ true
      → Step (λ d. direct_line h (direct_at h d)) (λ d. so_far h h.nsources h.ndeliveries d) (λ d. tables_to h h.nsources h.ndeliveries d) d
  unfolding own.based_to own.percents_to direct_tried_as
  direct_step_lem e =
      let o = direct_own_lem counted entry tables.high tables.based tables.percents e in
      let t : direct_tried_as ≡ accepted entry = direct_ruled_lem o.source o.delivery ∙ ruled_goes (next_line counted) entry within (leb 32 d) missing allowed over o.ruled in
      record {
        labels = direct_labelled h entry ∙ rw ((unit_labelled o.source o.delivery).label, (delivery_labelled_at o.source o.delivery).label);
        goes = direct_goes o.source o.delivery ∙ rw t (ap accepted direct_next);
        kept = subst (λ (m : Hour). Kept m (tables_to h h.nsources h.ndeliveries (suc d))) direct_next
            (kept_direct hour tables k within own_line entry t);
      }
