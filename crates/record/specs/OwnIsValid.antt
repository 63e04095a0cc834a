-- A record passes the test place by place exactly when some deck gives it.
use Rattle.std.specs.Prelude.{is_ok, ◌≡◌, Bool, true, false, ℕ, ◌≤◌, get_or, replicate}
use Rattle.std.proofs.Math.Path.{refl, ap}
use Rattle.std.proofs.Common.{sym, ◌∙◌, arith}
use mathlib.Core.List.{List, [], ◌∷◌, ◌++◌, append-nil}
use Rattle.rules.specs.Words.{list_to, all_to}
use Rattle.rules.specs.Refusals.{accepted}
use Rattle.rules.specs.Answers.{verdict_of}
use Rattle.rules.specs.Lines.{Line}
use Rattle.rules.specs.Group.{no_direct}
use Rattle.rules.specs.Sequences.{no_delivery}
use Rattle.rules.specs.Record as record_of
use Rattle.rules.specs.Record.{no_source, source_at, delivery_at, direct_at, blank_source, blank_delivery, blank_direct, started, source_line, delivery_line, direct_line, body}
use Rattle.rules.specs.Reading as reading
use Rattle.rules.specs.Reading.{feed, headed, finished}
use Rattle.rules.specs.Writing.{all_labelled, valid}
use Rattle.rules.specs.declared.Hour.{Hour}
use Rattle.laws.specs.Choices.{false_not_true, both_true}
use Rattle.roundtrip.specs.Taken.{finished_passed}
use Rattle.roundtrip.specs.OwnLines.{OwnLines, head_passed, valid_own, own_valid, own_entries}
use Rattle.ranges.specs.RangedIsInside.{losses_inside_lem}
use Rattle.line_rules.specs.Tried.{counts_of, Few}
use Rattle.record.specs.Shape.{source_blank, delivery_blank, direct_blank}
use Rattle.record.specs.ShapeTells.{blank_source_lem, blank_delivery_lem, blank_direct_lem, blanks_blank}
use Rattle.record.specs.Own.{fill_to, tables_to, source_own_at, delivery_own_at, direct_own_at, stands, Places, Passes}
use Rattle.record.specs.Fill.{fill_to_own}
use Rattle.record.specs.OwnTells.{few_from, few_to}
use Rattle.record.specs.Steps.{entries_own, rest_blank, all_stand}
use Rattle.record.specs.Turns.{feed_append, labels_append, all_fed, fed_all}
use Rattle.record.specs.SoFar.{so_far, accepts_told, started_is, started_kept, source_step_lem, source_back, delivery_step_lem, delivery_back, direct_step_lem, direct_back}

-- a list of 32 whose places stand is its first n elements and blanks
filled : {A : Type 0} (xs : List A) (blank d : A) (test : A → Bool) → ((x : A) → test x ≡ true → x ≡ blank) → (own : ℕ → Bool) (n : ℕ) → n ≤ 32
    → Places xs (stands own (λ i. test (get_or xs i d)) n) → fill_to (λ i. get_or xs i d) (replicate 32 blank) n ≡ xs
filled xs blank d test tells own n few p = fill_to_own xs blank d n p.size few (λ i l m. tells (get_or xs i d) (rest_blank own _ n p.all i l m))

module _ (h : Hour) where
  source_lines : ℕ → List Line
  source_lines n = list_to (λ i. source_line (source_at h i) ∷ []) n

  delivery_lines : ℕ → List Line
  delivery_lines n = list_to (λ i. delivery_line (delivery_at h i) ∷ []) n

  direct_lines : ℕ → List Line
  direct_lines n = list_to (λ i. direct_line h (direct_at h i) ∷ []) n

  body_is : body h ≡ source_lines h.nsources ++ (delivery_lines h.ndeliveries ++ direct_lines h.ndirects)
  unfolding record_of.body source_lines delivery_lines direct_lines
  body_is = refl

  -- A record that passes.

  record Given : Type 0 where
    fed : feed (so_far h 0 0 0) (body h) ≡ accepted (so_far h h.nsources h.ndeliveries h.ndirects)
    labels : all_labelled (body h) ≡ true

  given_lines : Few (counts_of h) → Passes h → Given
  unfolding source_lines delivery_lines direct_lines
  given_lines f p =
      let s = all_fed _ (λ i. so_far h i 0 0) (λ i. tables_to h i 0 0) (source_own_at h.sources) (source_step_lem h) (started_kept h) h.nsources (entries_own _ _ _ f.sources p.sources.all) in
      let t = all_fed _ (λ j. so_far h h.nsources j 0) (λ j. tables_to h h.nsources j 0) (delivery_own_at h.nsources h.deliveries) (delivery_step_lem h) s.kept h.ndeliveries (entries_own _ _ _ f.deliveries p.deliveries.all) in
      let d = all_fed _ (λ k. so_far h h.nsources h.ndeliveries k) (λ k. tables_to h h.nsources h.ndeliveries k) (direct_own_at h) (direct_step_lem h) t.kept h.ndirects (entries_own _ _ _ f.directs p.directs.all) in
      record {
        fed = ap (feed (so_far h 0 0 0)) body_is ∙ feed_append (source_lines h.nsources) (delivery_lines h.ndeliveries ++ direct_lines h.ndirects) (so_far h 0 0 0)
            ∙ rw s.fed (feed_append (delivery_lines h.ndeliveries) (direct_lines h.ndirects) (so_far h h.nsources 0 0) ∙ rw t.fed d.fed);
        labels = ap all_labelled body_is ∙ labels_append (source_lines h.nsources) (delivery_lines h.ndeliveries ++ direct_lines h.ndirects)
            ∙ rw s.labels (labels_append (delivery_lines h.ndeliveries) (direct_lines h.ndirects) ∙ rw t.labels d.labels);
      }

  -- blanks after the counts: all of it is so far
  whole : Few (counts_of h) → Passes h → so_far h h.nsources h.ndeliveries h.ndirects ≡ h
  whole f p =
      rw (
        filled h.sources blank_source no_source source_blank blank_source_lem _ h.nsources f.sources p.sources,
        filled h.deliveries blank_delivery no_delivery delivery_blank blank_delivery_lem _ h.ndeliveries f.deliveries p.deliveries,
        filled h.directs blank_direct no_direct direct_blank blank_direct_lem _ h.ndirects f.directs p.directs,
      )

  own_lines : Passes h → OwnLines h
  unfolding reading.headed
  own_lines p =
      let few = few_from (counts_of h) p.few in
      let g = given_lines few p in
      let f = accepts_told (finished h) p.done in
      record {
        head = rw (losses_inside_lem (h.losses, tt), p.losses);
        fed = ap (λ (m : Hour). feed m (body h)) (started_is h) ∙ g.fed ∙ ap accepted (whole few p);
        done = f.1 ∙ ap accepted (sym (finished_passed h f.0 f.1).same);
        labels = g.labels;
      }

  -- A record that a deck gives.

  record Lines : Type 0 where
    sources : all_to (source_own_at h.sources) h.nsources ≡ true
    deliveries : all_to (delivery_own_at h.nsources h.deliveries) h.ndeliveries ≡ true
    directs : all_to (direct_own_at h) h.ndirects ≡ true

  lines_own : OwnLines h → Few (counts_of h) → Lines
  unfolding source_lines delivery_lines direct_lines
  lines_own o f =
      let g = own_entries h o in
      let a = both_true (all_labelled (source_lines h.nsources)) _ (sym (labels_append (source_lines h.nsources) (delivery_lines h.ndeliveries ++ direct_lines h.ndirects)) ∙ ap all_labelled (sym body_is) ∙ o.labels) in
      let b = both_true (all_labelled (delivery_lines h.ndeliveries)) (all_labelled (direct_lines h.ndirects)) (sym (labels_append (delivery_lines h.ndeliveries) (direct_lines h.ndirects)) ∙ a.1) in
      let few = f.sources in
      let few' = f.deliveries in
      let s = fed_all _ (λ i. so_far h i 0 0) (λ i. tables_to h i 0 0) (source_own_at h.sources) (source_step_lem h) (started_kept h) h h.nsources
      (λ i l k. source_back h i k (omega arith)) h.nsources (omega arith) (delivery_lines h.ndeliveries ++ direct_lines h.ndirects) a.0
      (ap (feed (so_far h 0 0 0)) (sym body_is) ∙ ap (λ (m : Hour). feed m (body h)) (sym (started_is h)) ∙ o.fed) in
      let t = fed_all _ (λ j. so_far h h.nsources j 0) (λ j. tables_to h h.nsources j 0) (delivery_own_at h.nsources h.deliveries) (delivery_step_lem h) s.kept h h.ndeliveries
      (λ j l k. delivery_back h j k (omega arith)) h.ndeliveries (omega arith) (direct_lines h.ndirects) b.0 s.rest in
      let d = fed_all _ (λ k. so_far h h.nsources h.ndeliveries k) (λ k. tables_to h h.nsources h.ndeliveries k) (direct_own_at h) (direct_step_lem h) t.kept h h.ndirects
      (λ i l k lb mid more e f. direct_back h i k (g.directs.entry i l).source (g.directs.entry i l).delivery mid e) h.ndirects (omega arith) [] b.1
      (ap (feed (so_far h h.nsources h.ndeliveries 0)) (append-nil (direct_lines h.ndirects)) ∙ t.rest) in
      record { sources = s.all; deliveries = t.all; directs = d.all }

  lines_pass : OwnLines h → Passes h
  lines_pass o =
      let g = own_entries h o in
      let f : Few (counts_of h) = record { sources = g.sources.few; deliveries = g.deliveries.few; directs = g.directs.few } in
      let l = lines_own o f in
      record {
        few = few_to (counts_of h) f;
        losses = sym (losses_inside_lem (h.losses, tt)) ∙ (head_passed h (started h.losses) o.head).0;
        sources = record { size = g.sources.size; all = all_stand _ _ _ l.sources (λ i l m. ap source_blank (g.sources.rest i l m) ∙ blanks_blank.0) };
        deliveries = record { size = g.deliveries.size; all = all_stand _ _ _ l.deliveries (λ i l m. ap delivery_blank (g.deliveries.rest i l m) ∙ blanks_blank.1) };
        directs = record { size = g.directs.size; all = all_stand _ _ _ l.directs (λ i l m. ap direct_blank (g.directs.rest i l m) ∙ blanks_blank.2) };
        done = rw o.done;
      }

pub passes_valid : (h : Hour) → Passes h → true ≡ valid h
passes_valid h p = sym (own_valid h (own_lines h p))

-- one test that fails is enough
pub fails_valid : (h : Hour) (test : Bool) → (Passes h → test ≡ true) → test ≡ false → false ≡ valid h
fails_valid h test told e = go (valid h) refl
  where
    go : (v : Bool) → valid h ≡ v → false ≡ v
    go true p = false_not_true (sym e ∙ told (lines_pass h (valid_own h p)))
    go false p = refl

-- where all but the last have passed, the last decides
pub ended_valid : (h : Hour) (b : Bool) → b ≡ is_ok (verdict_of (finished h)) → (is_ok (verdict_of (finished h)) ≡ true → Passes h) → b ≡ valid h
ended_valid h true e p = passes_valid h (p (sym e))
ended_valid h false e p = fails_valid h _ (λ p. p.done) (sym e)
