-- What the line at hand tells of the reading: it refuses the deck, or the hour has one entry more and reading goes on after it.
use Rattle.std.specs.Prelude.{◌≡◌, Bool, List, ℕ, ◌+◌, ◌<◌, ◌≤◌, length, drop, Result, MatchResult, Option, Some, None}
use Rattle.std.proofs.Math.Path.{refl, ap, sym}
use Rattle.std.proofs.Common.{◌∙◌, arith}
use Rattle.std.proofs.Math.Bool.{true, false}
use Rattle.std.proofs.Math.Option.{none, some}
use Rattle.std.proofs.Math.Dec.{eqb}
use borrow.Author.Tests.{eqb-true, ne_eqb}
use Rattle.rules.specs.Words.{when◌then◌else◌}
use Rattle.rules.specs.Answers.{verdict_of}
use Rattle.rules.specs.Refusals.{Outcome, accepted, refused, and_then}
use Rattle.rules.specs.Fields as fields
use Rattle.rules.specs.Fields.{Field, got, malformed, byte, escape, Chars, chars_at}
use Rattle.rules.specs.Lines as lines
use Rattle.rules.specs.Lines.{Letter, H, U, P, F, T, D, Fields, fields_of, seen, ranged, letter_of, Line, line, places_at, line_at}
use Rattle.rules.specs.Record.{chars, label_of, with_source, with_delivery, with_direct, unit_of, purchase_of, fixed_of, delivery_of}
use Rattle.rules.specs.Places.{past}
use Rattle.rules.specs.Reading as reading
use Rattle.rules.specs.Reading.{line_number, taken, source_taken, is_end}
use Rattle.rules.specs.declared.Label.{Label}
use Rattle.rules.specs.declared.Plant.{Plant}
use Rattle.rules.specs.declared.Plant.TheVariants.{Unit as IsUnit, Fixed as IsFixed}
use Rattle.rules.specs.declared.Source.{Source}
use Rattle.rules.specs.declared.Delivery.{Delivery}
use Rattle.rules.specs.declared.Direct.{Direct}
use Rattle.rules.specs.declared.Hour.{Hour}
use Rattle.rules.specs.declared.Refusal.{Refusal}
use Rattle.rules.specs.declared.Refusal.TheVariants.{Form}
use Rattle.laws.specs.Choices.{false_not_true}
use Rattle.roundtrip.specs.Loop.{Going, goes_malformed, goes_on, goes_refused}
use Rattle.roundtrip.specs.Labels.{chars_label, label_some}
use Rattle.roundtrip.specs.LabelsStart.{FirstPlace, next_starts, label_starts}
use Rattle.roundtrip.specs.Lines.{line_ranged}
use Rattle.roundtrip.specs.Taken.{source_taken_lem, delivery_taken_lem, taken_passed}
use Rattle.read_fields.specs.declared.Place.{Place}
use Rattle.read_lines.specs.Answers.{cut_fields, unit_line, purchase_line, fixed_line, delivery_line, direct_line}
use Rattle.read_lines.specs.Cut.{ranged_cut, cut_ranged, LabelStands, line_stands}
use Rattle.ranges.specs.Inside.{plant_inside, unit_made, delivery_inside, direct_inside}
use Rattle.ranges.specs.declared.UnitNumbers.{UnitNumbers}
use Rattle.ranges.specs.RangedIsInside.{unit_inside, purchase_inside, fixed_inside, delivery_inside_lem, direct_inside_lem}
use Rattle.line_rules.specs.Spellings.{spelling_of}
use Rattle.line_rules.specs.SpellingTells.{labelled}
use Rattle.line_rules.specs.Tried.{entry_of, counts_of, source_tried, delivery_tried, Tables, direct_tried}
use Rattle.line_rules.specs.Kept.{Kept}
use Rattle.line_rules.specs.TriedIsTaken.{source_tried_lem, delivery_tried_lem, direct_tried_lem}
use Rattle.line_rules.specs.TablesKept.{source_let, delivery_let, direct_let, source_added, kept_source, delivery_added, kept_delivery, direct_added, kept_direct}
use Rattle.line_rules.specs.Totalled.{source_totalled, delivery_totalled}
use Rattle.line_rules.specs.declared.DirectLine.{DirectLine}
use Rattle.line_rules.specs.declared.Totals.{Totals}
use Rattle.deck.specs.Answers.{Holds}
use Rattle.deck.specs.Steps as steps
use Rattle.deck.specs.Steps.{taken_if, source_step, judged_source, unit_source, purchase_source, fixed_source, line_step, source_from, delivery_step, direct_made, direct_step}
use Rattle.deck.specs.LabelBytes.{Escaped, line_escaped}
use Rattle.deck.specs.declared.SourceLine.{SourceLine}
use Rattle.deck.specs.declared.Step.{Step}
use Rattle.deck.specs.declared.DirectStep.{DirectStep}

-- A line by its letter.

module _ (s : List ℕ) (at : ℕ) (l : Letter) (b : letter_of (byte s at) ≡ some l) where
  pub line_got : (v : Fields fields.Place (fields_of l)) (next : ℕ) → places_at s (at + 1) l ≡ got v next → line_at s at ≡ got (line l (seen (fields_of l) s v)) next
  unfolding lines.line_at
  line_got v next e = rw (b, e)

  pub line_malformed : places_at s (at + 1) l ≡ malformed → line_at s at ≡ malformed
  unfolding lines.line_at
  line_malformed e = rw (b, e)

pub line_none : (s : List ℕ) (at : ℕ) → letter_of (byte s at) ≡ none → line_at s at ≡ malformed
unfolding lines.line_at
line_none s at b = rw b

-- What comes of it.

-- every reading that comes here is refused
abbrev pub Refuses : List ℕ → Hour → ℕ → Refusal → Type 0
Refuses s h at r = (o : Outcome Hour) → Going s h at o → o ≡ refused r

-- every reading that comes here goes on after the line
abbrev pub Goes : List ℕ → Hour → ℕ → Hour → ℕ → Type 0
Goes s h at after next = (o : Outcome Hour) → Going s h at o → Going s after next o

-- a line of a class with n entries, k lines after the first, whose label stands at a place, and the totals with it
pub record Takes (s : List ℕ) (h : Hour) (at n k : ℕ) (after : Hour) (tables : Tables) (label : Label) (totals sum : Totals) (place : Place) (next : ℕ) : Type 0 where
  pub goes : Goes s h at after next
  pub kept : Kept after tables
  pub room : n < 32
  pub totalled : totals ≡ sum
  pub holds : Holds s (escape (chars label)) place
  pub further : at < next
  pub ordered : line_number h ≡ k + 1
  pub some : 1 ≤ length (escape (chars label))
  pub starts : place.from ≡ at + past 34 (drop at s)
  pub ends : next ≡ at + past 10 (drop at s)

-- what a line comes to that adds an entry
abbrev pub SourceTakes : List ℕ → Hour → Tables → Totals → ℕ → Step Source → Type 0
SourceTakes s h t u at x =
    Takes s h at h.nsources (h.nsources + 1) (with_source h x.entry) (source_added t h.nsources x.entry) x.entry.label
    x.totals (source_totalled u x.entry.plant) x.place x.next

abbrev pub DeliveryTakes : List ℕ → Hour → Tables → Totals → ℕ → Step Delivery → Type 0
DeliveryTakes s h t u at x =
    Takes s h at h.ndeliveries (h.nsources + h.ndeliveries + 1) (with_delivery h x.entry) (delivery_added t h.ndeliveries x.entry) x.entry.label
    x.totals (delivery_totalled u x.entry) x.place x.next

-- and any line of its class
abbrev pub SourceTurn : List ℕ → Hour → Tables → Totals → ℕ → Result (Step Source) Refusal → Type 0
SourceTurn s h t u at r = MatchResult r (SourceTakes s h t u at) (Refuses s h at)

abbrev pub DeliveryTurn : List ℕ → Hour → Tables → Totals → ℕ → Result (Step Delivery) Refusal → Type 0
DeliveryTurn s h t u at r = MatchResult r (DeliveryTakes s h t u at) (Refuses s h at)

-- a line that is read, whose rules are tried on the tables
module _ (s : List ℕ) (h : Hour) (at : ℕ) (read : Hour) (next : ℕ) (l : Line) (e : line_at s at ≡ got l next) (i : is_end l.letter ≡ false) where
  tried_turn : {A : Type 0} (Taken : A → Type 0) (x : A) (tried : Outcome (Unit {0})) → taken h l ≡ and_then tried (λ u. accepted read)
      → (tried ≡ accepted tt → taken h l ≡ accepted read → Taken x) → MatchResult (taken_if (verdict_of tried) x) Taken (Refuses s h at)
  tried_turn Taken x (accepted u) t takes = takes refl t
  tried_turn Taken x (refused r) t takes = λ o g. goes_refused s h at o g l next e r i t

  -- one whose label stands at a place
  takes : (n k : ℕ) (after : Hour) (tables : Tables) (sum : Totals) (p : fields.Place) → LabelStands s p → Escaped s p → at < next
      → (line_ranged l ≡ true → p.from ≡ at + past 34 (drop at s)) → line_number h ≡ k + 1 → taken h l ≡ accepted read → read ≡ after → Kept after tables → n < 32
      → Takes s h at n k after tables (label_of (chars_at s p)) sum sum (record { from = p.from; upto = p.upto }) next
  takes n k after tables sum p st es far first order is same kept room =
      let within = (taken_passed h l read is).within in
      record {
        goes = λ o g. goes_on s h at o g l next e after (is ∙ ap accepted same);
        kept = kept;
        room = room;
        totalled = refl;
        holds = record { order = st.order; within = st.within; bytes = sym es ∙ ap escape (sym (chars_label (chars_at s p))) };
        further = far;
        ordered = order;
        some = rw (chars_label (chars_at s p)) (label_some (chars_at s p) st.label);
        starts = first within;
        ends = next_starts l s at next e within;
      }

-- Source lines.

module _ (s : List ℕ) (h : Hour) (t : Tables) (u : Totals) (k : Kept h t) (at : ℕ) where
  -- a line whose numbers are those of a plant that was read, and where they are in their ranges those of the one that is tried
  source_tried_turn : (l : Line) (next : ℕ) (in_range : Bool) (plant read : Plant) (p : fields.Place) → line_at s at ≡ got l next → is_end l.letter ≡ false → LabelStands s p
      → Escaped s p → at < next → (line_ranged l ≡ true → p.from ≡ at + past 34 (drop at s))
      → taken h l ≡ source_taken h in_range (record { plant = read; label = label_of (chars_at s p) }) → (in_range ≡ true → plant ≡ read)
      → (in_range ≡ true → plant_inside plant ≡ true)
      → SourceTurn s h t u at (source_step s (counts_of h) u t.slo t.shi (record { ranged = in_range; plant = plant; label = record { from = p.from; upto = p.upto }; next = next }))
  unfolding steps.source_step
  source_tried_turn l next in_range plant read p e i st es far first took same within =
      let x : Source = record { plant = plant; label = label_of (chars_at s p) } in
      let y : Source = record { plant = read; label = label_of (chars_at s p) } in
      let lb = labelled (chars_at s p) st.label in
      let tried = source_tried (counts_of h) in_range plant (spelling_of (label_of (chars_at s p))) t.slo t.shi in
      tried_turn s h at (with_source h y) next l e i (SourceTakes s h t u at) _ tried (took ∙ source_tried_lem h t k in_range y plant lb same)
      (λ a is.
      let r = source_let (counts_of h) in_range plant (spelling_of (label_of (chars_at s p))) t.slo t.shi a in
      let o : line_number h ≡ h.nsources + 1 + 1 = omega (arith, (source_taken_lem h in_range y (with_source h y) (sym took ∙ is)).1.alone) in
      takes s h at (with_source h y) next l e i h.nsources (h.nsources + 1) (with_source h x) (source_added t h.nsources x) (source_totalled u plant) p st es far first o is
      (ap (λ (z : Plant). with_source h (record { plant = z; label = label_of (chars_at s p) })) (sym (same r.within))) (kept_source h t k in_range x lb within a) r.room)

  -- once for the three letters: a line's entry, and its label
  module _ (l : Letter) (entry : Fields Chars (fields_of l) → Source) (place : Fields fields.Place (fields_of l) → fields.Place)
      (first : (v : Fields fields.Place (fields_of l)) → FirstPlace (fields_of l) v (place v)) (b : letter_of (byte s at) ≡ some l) (i : is_end l ≡ false)
      (inside : (w : Fields Chars (fields_of l)) → ranged (fields_of l) w ≡ plant_inside (entry w).plant)
      (took : (w : Fields Chars (fields_of l)) → taken h (line l w) ≡ source_taken h (ranged (fields_of l) w) (entry w)) where
    source_turn : (v : Fields fields.Place (fields_of l)) (next : ℕ) → places_at s (at + 1) l ≡ got v next → LabelStands s (place v) → Escaped s (place v)
        → (entry (seen (fields_of l) s v)).label ≡ label_of (chars_at s (place v))
        → (in_range : Bool) (plant : Plant) → plant_inside (entry (seen (fields_of l) s (cut_fields (fields_of l) v))).plant ≡ in_range
        → (in_range ≡ true → plant ≡ (entry (seen (fields_of l) s (cut_fields (fields_of l) v))).plant)
        → SourceTurn s h t u at (source_step s (counts_of h) u t.slo t.shi (record { ranged = in_range; plant = plant; label = record { from = (place v).from; upto = (place v).upto }; next = next }))
    source_turn v next e st es lb in_range plant judged is =
        let ks = fields_of l in
        let w = seen ks s v in
        let same : ranged ks w ≡ in_range = sym (ranged_cut l s v) ∙ inside (seen ks s (cut_fields ks v)) ∙ judged in
        let ls = line_stands s l (at + 1) v next e in
        source_tried_turn (line l w) next in_range plant (entry w).plant (place v) (line_got s at l b v next e) i st es (omega (arith, ls.after))
        (λ r. label_starts s l at v next (place v) b r e (first v))
        (took w ∙ ap (λ (r : Bool). source_taken h r (entry w)) same ∙ ap (λ (x : Label). source_taken h in_range (record { plant = (entry w).plant; label = x })) lb)
        (λ r. is r ∙ ap (λ (v : Fields fields.Place ks). (entry (seen ks s v)).plant) (cut_ranged l s v (same ∙ r)))
        (λ r. ap plant_inside (is r) ∙ judged ∙ r)

  -- the step of what a line tells of its source
  abbrev step : Option SourceLine → Result (Step Source) Refusal
  step l = line_step s (counts_of h) u t.slo t.shi l

  unit_turn : letter_of (byte s at) ≡ some U → SourceTurn s h t u at (step (unit_source (unit_line (places_at s (at + 1) U))))
  unfolding lines.seen reading.taken
  unit_turn b = go (places_at s (at + 1) U) refl
    where
      -- judged by its cut numbers
      judge : (v : Fields fields.Place (fields_of U)) (next : ℕ) → places_at s (at + 1) U ≡ got v next → (x : UnitNumbers)
          → (unit_of (seen (fields_of U) s (cut_fields (fields_of U) v))).plant ≡ IsUnit (unit_made x) → (r : Bool) → plant_inside (IsUnit (unit_made x)) ≡ r
          → let p = v.1.1.1.1.1.1.1.1.1.1.0 in
          SourceTurn s h t u at (step (Some (judged_source (when r then Some (unit_made x) else None) (record { from = p.from; upto = p.upto }) next)))
      judge v next e x is true r =
          source_turn U unit_of (λ v. v.1.1.1.1.1.1.1.1.1.1.0) (λ v. refl) b refl unit_inside (λ w. refl) v next e
          (line_stands s U (at + 1) v next e).labels.0 (line_escaped s U (at + 1) v next e).0 refl true (IsUnit (unit_made x)) (ap plant_inside is ∙ r) (λ q. sym is)
      judge v next e x is false r =
          source_turn U unit_of (λ v. v.1.1.1.1.1.1.1.1.1.1.0) (λ v. refl) b refl unit_inside (λ w. refl) v next e
          (line_stands s U (at + 1) v next e).labels.0 (line_escaped s U (at + 1) v next e).0 refl false (IsFixed 0) (ap plant_inside is ∙ r) (λ q. false_not_true q)

      go : (x : Field (Fields fields.Place (fields_of U))) → places_at s (at + 1) U ≡ x → SourceTurn s h t u at (step (unit_source (unit_line x)))
      go (got v next) e = judge v next e _ refl _ refl
      go malformed e = λ o g. goes_malformed s h at o g (line_malformed s at U b e)

  purchase_turn : letter_of (byte s at) ≡ some P → SourceTurn s h t u at (step (purchase_source (purchase_line (places_at s (at + 1) P))))
  unfolding lines.seen reading.taken
  purchase_turn b = go (places_at s (at + 1) P) refl
    where
      go : (x : Field (Fields fields.Place (fields_of P))) → places_at s (at + 1) P ≡ x → SourceTurn s h t u at (step (purchase_source (purchase_line x)))
      go (got v next) e =
          source_turn P purchase_of (λ v. v.1.1.0) (λ v. refl) b refl purchase_inside (λ w. refl) v next e
          (line_stands s P (at + 1) v next e).labels.0 (line_escaped s P (at + 1) v next e).0 refl _ _ refl (λ r. refl)
      go malformed e = λ o g. goes_malformed s h at o g (line_malformed s at P b e)

  fixed_turn : letter_of (byte s at) ≡ some F → SourceTurn s h t u at (step (fixed_source (fixed_line (places_at s (at + 1) F))))
  unfolding lines.seen reading.taken
  fixed_turn b = go (places_at s (at + 1) F) refl
    where
      go : (x : Field (Fields fields.Place (fields_of F))) → places_at s (at + 1) F ≡ x → SourceTurn s h t u at (step (fixed_source (fixed_line x)))
      go (got v next) e =
          source_turn F fixed_of (λ v. v.1.0) (λ v. refl) b refl fixed_inside (λ w. refl) v next e
          (line_stands s F (at + 1) v next e).labels.0 (line_escaped s F (at + 1) v next e).0 refl _ _ refl (λ r. refl)
      go malformed e = λ o g. goes_malformed s h at o g (line_malformed s at F b e)

  -- a second H line, and a line of no letter
  head_refuses : letter_of (byte s at) ≡ some H → Refuses s h at (Form (line_number h))
  unfolding reading.taken
  head_refuses b = go (places_at s (at + 1) H) refl
    where
      go : (x : Field (Fields fields.Place (fields_of H))) → places_at s (at + 1) H ≡ x → Refuses s h at (Form (line_number h))
      go (got v next) e = λ o g. goes_refused s h at o g (line H (seen (fields_of H) s v)) next (line_got s at H b v next e) (Form (line_number h)) refl refl
      go malformed e = λ o g. goes_malformed s h at o g (line_malformed s at H b e)

  other_refuses : (b : ℕ) → byte s at ≡ b → (b ≡ 68 → ⊥) → (b ≡ 84 → ⊥) → (b ≡ 69 → ⊥) → eqb b 85 ≡ false → eqb b 80 ≡ false → eqb b 70 ≡ false
      → Refuses s h at (Form (line_number h))
  unfolding lines.letter_of
  other_refuses b be d n e u p f = go (eqb b 72) refl
    where
      go : (x : Bool) → eqb b 72 ≡ x → Refuses s h at (Form (line_number h))
      go true xe = head_refuses (rw (be, xe))
      go false xe = λ o g. goes_malformed s h at o g (line_none s at (rw (be, xe, u, p, f, ne_eqb b 84 n, ne_eqb b 68 d, ne_eqb b 69 e)))

  -- any line but T, D and E
  pub source_at_turn : (b : ℕ) → byte s at ≡ b → (b ≡ 68 → ⊥) → (b ≡ 84 → ⊥) → (b ≡ 69 → ⊥)
      → SourceTurn s h t u at (source_from s (at + 1) b (counts_of h) u t.slo t.shi)
  unfolding lines.letter_of
  source_at_turn b be d n e = go (eqb b 85) refl (eqb b 80) refl (eqb b 70) refl
    where
      letter : (c : ℕ) → eqb b c ≡ true → letter_of (byte s at) ≡ letter_of c
      letter c q = ap letter_of (be ∙ eqb-true b c q)

      go : (c : Bool) → eqb b 85 ≡ c → (p : Bool) → eqb b 80 ≡ p → (f : Bool) → eqb b 70 ≡ f
          → SourceTurn s h t u at (source_from s (at + 1) b (counts_of h) u t.slo t.shi)
      go true ue p pe f fe = rw ue (unit_turn (letter 85 ue))
      go false ue true pe f fe = rw (ue, pe) (purchase_turn (letter 80 pe))
      go false ue false pe true fe = rw (ue, pe, fe) (fixed_turn (letter 70 fe))
      go false ue false pe false fe = rw (ue, pe, fe) (other_refuses b be d n e ue pe fe)

  -- T lines.

  pub delivery_at_turn : byte s at ≡ 84 → DeliveryTurn s h t u at (delivery_step s (counts_of h) u t.tlo t.thi (delivery_line (places_at s (at + 1) T)))
  unfolding lines.letter_of lines.seen reading.taken steps.delivery_took
  delivery_at_turn be = go (places_at s (at + 1) T) refl
    where
      b : letter_of (byte s at) ≡ some T
      b = ap letter_of be

      go : (x : Field (Fields fields.Place (fields_of T))) → places_at s (at + 1) T ≡ x → DeliveryTurn s h t u at (delivery_step s (counts_of h) u t.tlo t.thi (delivery_line x))
      go (got v next) e =
          let ks = fields_of T in
          let w = seen ks s v in
          let c = seen ks s (cut_fields ks v) in
          let p = v.1.1.1.1.0 in
          let ls = line_stands s T (at + 1) v next e in
          let st = ls.labels.0 in
          let lb = labelled (chars_at s p) st.label in
          let in_range = delivery_inside c.0 c.1.0 c.1.1.0 c.1.1.1.0 in
          let same : ranged ks w ≡ in_range = sym (ranged_cut T s v) ∙ delivery_inside_lem c in
          let tried = delivery_tried (counts_of h) in_range (spelling_of (label_of (chars_at s p))) t.tlo t.thi in
          let is_line = line_got s at T b v next e in
          tried_turn s h at (with_delivery h (delivery_of w)) next (line T w) is_line refl (DeliveryTakes s h t u at) _ tried
          (ap (λ (r : Bool). reading.delivery_taken h r (delivery_of w)) same ∙ delivery_tried_lem h t k in_range (delivery_of w) lb)
          (λ a is.
          let r = delivery_let (counts_of h) in_range (spelling_of (label_of (chars_at s p))) t.tlo t.thi a in
          let o : line_number h ≡ h.nsources + h.ndeliveries + 1 + 1 = omega (arith, (delivery_taken_lem h (ranged ks w) (delivery_of w) (with_delivery h (delivery_of w)) is).1.alone) in
          takes s h at (with_delivery h (delivery_of w)) next (line T w) is_line refl h.ndeliveries (h.nsources + h.ndeliveries + 1) (with_delivery h (delivery_of c)) (delivery_added t h.ndeliveries (delivery_of c))
          (delivery_totalled u (delivery_of c)) p st (line_escaped s T (at + 1) v next e).0 (omega (arith, ls.after)) (λ r. label_starts s T at v next p b r e refl) o is
          (ap (λ (v : Fields fields.Place ks). with_delivery h (delivery_of (seen ks s v))) (sym (cut_ranged T s v (same ∙ r.within)))) (kept_delivery h t k in_range (delivery_of c) lb a) r.room)
      go malformed e = λ o g. goes_malformed s h at o g (line_malformed s at T b e)

-- D lines.

pub record DirectTakes (s : List ℕ) (h : Hour) (t : Tables) (at : ℕ) (x : DirectStep) : Type 0 where
  pub goes : Goes s h at (with_direct h x.entry) x.next
  pub kept : Kept (with_direct h x.entry) (direct_added t x.entry)
  pub room : h.ndirects < 32
  pub further : at < x.next
  pub ends : x.next ≡ at + past 10 (drop at s)

abbrev pub DirectTurn : List ℕ → Hour → Tables → ℕ → Result DirectStep Refusal → Type 0
DirectTurn s h t at r = MatchResult r (DirectTakes s h t at) (Refuses s h at)

pub direct_at_turn : (s : List ℕ) (h : Hour) (t : Tables) (k : Kept h t) (at : ℕ) → byte s at ≡ 68
    → DirectTurn s h t at (direct_step s (counts_of h) t (direct_line (places_at s (at + 1) D)))
unfolding lines.letter_of lines.seen reading.taken steps.direct_took
direct_at_turn s h t k at be = go (places_at s (at + 1) D) refl
  where
    b : letter_of (byte s at) ≡ some D
    b = ap letter_of be

    go : (x : Field (Fields fields.Place (fields_of D))) → places_at s (at + 1) D ≡ x → DirectTurn s h t at (direct_step s (counts_of h) t (direct_line x))
    go (got v next) e =
        let ks = fields_of D in
        let w = seen ks s v in
        let c = seen ks s (cut_fields ks v) in
        let ls = line_stands s D (at + 1) v next e in
        let unit = label_of (chars_at s v.1.1.0) in
        let delivery = label_of (chars_at s v.1.1.1.0) in
        let in_range = direct_inside c.0 c.1.0 in
        let same : ranged ks w ≡ in_range = sym (ranged_cut D s v) ∙ direct_inside_lem c in
        let x : DirectLine = record { basis = c.0; percent = c.1.0; unit = spelling_of unit; delivery = spelling_of delivery } in
        let cut : in_range ≡ true → cut_fields ks v ≡ v = λ r. cut_ranged D s v (same ∙ r) in
        let got_line = line_got s at D b v next e in
        let took : taken h (line D w) ≡ and_then (direct_tried (counts_of h) in_range x t) (λ y. accepted (with_direct h y))
        = ap (λ (r : Bool). reading.direct_taken h r w.0 w.1.0 unit delivery) same
        ∙ direct_tried_lem h t k in_range w.0 w.1.0 unit delivery x (labelled (chars_at s v.1.1.0) ls.labels.0.label)
        (labelled (chars_at s v.1.1.1.0) ls.labels.1.0.label) refl refl
        (λ r. (ap (λ (v : Fields fields.Place ks). v.0) (cut r), ap (λ (v : Fields fields.Place ks). v.1.0) (cut r))) in
        tried in_range x (line D w) next got_line refl (omega (arith, ls.after)) took (direct_tried (counts_of h) in_range x t) refl
      where
        tried : (in_range : Bool) (x : DirectLine) (l : Line) (next : ℕ) → line_at s at ≡ got l next → is_end l.letter ≡ false → at < next
            → taken h l ≡ and_then (direct_tried (counts_of h) in_range x t) (λ y. accepted (with_direct h y)) → (o : Outcome Direct) → direct_tried (counts_of h) in_range x t ≡ o
            → DirectTurn s h t at (direct_made (entry_of o) next)
        tried in_range x l next e i far took (refused q) a =
            λ o g. goes_refused s h at o g l next e q i (took ∙ ap (λ (x : Outcome Direct). and_then x (λ y. accepted (with_direct h y))) a)
        tried in_range x l next e i far took (accepted y) a =
            let r = direct_let (counts_of h) in_range x t y a in
            let is : taken h l ≡ accepted (with_direct h y) = took ∙ ap (λ (x : Outcome Direct). and_then x (λ y. accepted (with_direct h y))) a in
            record {
              goes = λ o g. goes_on s h at o g l next e (with_direct h y) is;
              kept = kept_direct h t k in_range x y a;
              room = r.room;
              further = far;
              ends = next_starts l s at next e (taken_passed h l (with_direct h y) is).within;
            }
    go malformed e = λ o g. goes_malformed s h at o g (line_malformed s at D b e)
