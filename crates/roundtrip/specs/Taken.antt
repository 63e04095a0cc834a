-- A line that the reader takes is that of an entry which the rules let through, and the hour after it has that entry.
use Rattle.std.specs.Prelude.{◌≡◌, refl, Bool, true, false, not, ◌&&◌, ℕ, ◌+◌, ◌<◌, ◌≤◌, leb, ltb, eqb}
use Rattle.std.proofs.Common.{ap, subst, ◌∙◌, leb-false, ltb-false, eqb-true}
use Rattle.std.proofs.Math.Option.{Option, none, some}
use Rattle.rules.specs.Refusals.{Outcome, accepted}
use Rattle.rules.specs.Units.{is_unit, levelled}
use Rattle.rules.specs.Fields.{Chars}
use Rattle.rules.specs.Lines.{Letter, H, U, P, F, T, D, E, Fields, fields_of, ranged, Line, line}
use Rattle.rules.specs.Record as record_of
use Rattle.rules.specs.Record.{chars, label_of, same_label, source_at, delivery_at, started, with_source, with_delivery, with_direct, unit_of, purchase_of, fixed_of, delivery_of, source_line, delivery_line, direct_line, head_line}
use Rattle.rules.specs.Reading as reading
use Rattle.rules.specs.Reading.{source_used, source_taken, delivery_used, delivery_taken, unit_named, delivery_named, named, basis_kept, below_high, percents_of, direct_taken, taken_as, taken, headed_as, headed, generated, delivered, unplaced, all_placed, finished, is_end}
use Rattle.rules.specs.declared.Label.{Label}
use Rattle.rules.specs.declared.Basis.{Basis}
use Rattle.rules.specs.declared.Source.{Source}
use Rattle.rules.specs.declared.Delivery.{Delivery}
use Rattle.rules.specs.declared.Direct.{Direct}
use Rattle.rules.specs.declared.Hour.{Hour}
use Rattle.rules.specs.declared.Refusal.{Refusal}
use Rattle.rules.specs.declared.Refusal.TheVariants.{Range, Overdrawn}
use Rattle.laws.specs.Choices.{both_true, not_false, refused_not_accepted, accepted_same, refuse_passed}
use Rattle.laws.specs.Lists.{same_list_tells, find_to_passes}
use Rattle.roundtrip.specs.Labels.{chars_label}
use Rattle.roundtrip.specs.Lines.{line_ranged}

-- Source lines.

pub record SourceTaken (h : Hour) (x : Source) (after : Hour) : Type 0 where
  pub alone : h.ndeliveries + h.ndirects ≡ 0
  pub room : h.nsources < 32
  pub unused : source_used h x.label ≡ false
  pub levels : levelled x.plant ≡ true
  pub is : with_source h x ≡ after

pub source_taken_lem : (h : Hour) (in_range : Bool) (x : Source) (after : Hour) → source_taken h in_range x ≡ accepted after → (in_range ≡ true) × SourceTaken h x after
source_taken_lem h in_range x after e =
    let a = refuse_passed (not (eqb (h.ndeliveries + h.ndirects) 0)) _ _ after e in
    let b = refuse_passed (not in_range) _ _ after a.1 in
    let c = refuse_passed (leb 32 h.nsources) _ _ after b.1 in
    let d = refuse_passed (source_used h x.label) _ _ after c.1 in
    let f = refuse_passed (not (levelled x.plant)) _ _ after d.1 in (
      not_false in_range b.0,
      record {
        alone = eqb-true (h.ndeliveries + h.ndirects) 0 (not_false _ a.0);
        room = leb-false 32 h.nsources c.0;
        unused = d.0;
        levels = not_false _ f.0;
        is = accepted_same (with_source h x) after f.1;
      },
    )

-- T lines.

pub record DeliveryTaken (h : Hour) (x : Delivery) (after : Hour) : Type 0 where
  pub alone : h.ndirects ≡ 0
  pub room : h.ndeliveries < 32
  pub unused : delivery_used h x.label ≡ false
  pub is : with_delivery h x ≡ after

pub delivery_taken_lem : (h : Hour) (in_range : Bool) (x : Delivery) (after : Hour) → delivery_taken h in_range x ≡ accepted after → (in_range ≡ true) × DeliveryTaken h x after
delivery_taken_lem h in_range x after e =
    let a = refuse_passed (not (eqb h.ndirects 0)) _ _ after e in
    let b = refuse_passed (not in_range) _ _ after a.1 in
    let c = refuse_passed (leb 32 h.ndeliveries) _ _ after b.1 in
    let d = refuse_passed (delivery_used h x.label) _ _ after c.1 in (
      not_false in_range b.0,
      record {
        alone = eqb-true h.ndirects 0 (not_false _ a.0);
        room = leb-false 32 h.ndeliveries c.0;
        unused = d.0;
        is = accepted_same (with_delivery h x) after d.1;
      },
    )

-- D lines.

record Named (x : Option ℕ) (then : ℕ → Outcome Hour) (after : Hour) : Type 0 where
  index : ℕ
  is : x ≡ some index
  goes : then index ≡ accepted after

named_passed : (x : Option ℕ) (r : Refusal) (then : ℕ → Outcome Hour) (after : Hour) → named x r then ≡ accepted after → Named x then after
named_passed (some i) r then after e = record { index = i; is = refl; goes = e }
named_passed none r then after e = refused_not_accepted r after e

-- the characters of a label that is the same as that of some characters
named_chars : (l : Label) (cs : Chars) → same_label l (label_of cs) ≡ true → chars l ≡ cs
named_chars l cs e = same_list_tells (chars l) (chars (label_of cs)) e ∙ chars_label cs

pub record DirectTaken (h : Hour) (x : Direct) (after : Hour) : Type 0 where
  pub room : h.ndirects < 32
  pub source : x.source < h.nsources
  pub unit : is_unit (source_at h x.source).plant ≡ true
  pub unit_named_lem : unit_named h (label_of (chars (source_at h x.source).label)) ≡ some x.source
  pub delivery : x.delivery < h.ndeliveries
  pub delivery_named_lem : delivery_named h (label_of (chars (delivery_at h x.delivery).label)) ≡ some x.delivery
  pub kept : basis_kept h x.source x.basis ≡ true
  pub below : below_high x.basis (source_at h x.source).plant ≡ true
  pub percents : percents_of h x.source + x.percent ≤ 100
  pub is : with_direct h x ≡ after

-- a D line that is taken: its entry
record DirectEntry (h : Hour) (in_range : Bool) (b : Basis) (percent : ℕ) (unit delivery : Chars) (after : Hour) : Type 0 where
  within : in_range ≡ true
  entry : Direct
  line_is : direct_line h entry ≡ line D (b, (percent, (unit, (delivery, tt))))
  entry_taken : DirectTaken h entry after

direct_taken_lem : (h : Hour) (in_range : Bool) (b : Basis) (percent : ℕ) (unit delivery : Chars) (after : Hour)
    → direct_taken h in_range b percent (label_of unit) (label_of delivery) ≡ accepted after → DirectEntry h in_range b percent unit delivery after
direct_taken_lem h in_range b percent unit delivery after e =
    let a = refuse_passed (not in_range) _ _ after e in
    let c = refuse_passed (leb 32 h.ndirects) _ _ after a.1 in
    let u = named_passed (unit_named h (label_of unit)) _ _ after c.1 in
    let d = named_passed (delivery_named h (label_of delivery)) _ _ after u.goes in
    let p = refuse_passed (not (basis_kept h u.index b && below_high b (source_at h u.index).plant)) _ _ after d.goes in
    let q = refuse_passed (ltb 100 (percents_of h u.index + percent)) _ _ after p.1 in
    entered u.index d.index a.0 c.0 u.is d.is p.0 q.0 q.1
  where
    entered : (i j : ℕ) → not in_range ≡ false → leb 32 h.ndirects ≡ false → unit_named h (label_of unit) ≡ some i → delivery_named h (label_of delivery) ≡ some j
        → not (basis_kept h i b && below_high b (source_at h i).plant) ≡ false → ltb 100 (percents_of h i + percent) ≡ false
        → accepted (with_direct h (record { basis = b; percent = percent; source = i; delivery = j })) ≡ accepted after → DirectEntry h in_range b percent unit delivery after
    entered i j w r ui di k p e =
        let uf = find_to_passes _ h.nsources i ui in
        let df = find_to_passes _ h.ndeliveries j di in
        let ub = both_true (is_unit (source_at h i).plant) _ uf.1 in
        let kb = both_true (basis_kept h i b) _ (not_false _ k) in
        let uc : chars (source_at h i).label ≡ unit = named_chars (source_at h i).label unit ub.1 in
        let dc : chars (delivery_at h j).label ≡ delivery = named_chars (delivery_at h j).label delivery df.1 in
        record {
          within = not_false in_range w;
          entry = record { basis = b; percent = percent; source = i; delivery = j };
          line_is = ap (λ (c : Chars). line D (b, (percent, (c, (chars (delivery_at h j).label, tt))))) uc ∙ ap (λ (c : Chars). line D (b, (percent, (unit, (c, tt))))) dc;
          entry_taken = record {
            room = leb-false 32 h.ndirects r;
            source = uf.0;
            unit = ub.0;
            unit_named_lem = ap (λ (c : Chars). unit_named h (label_of c)) uc ∙ ui;
            delivery = df.0;
            delivery_named_lem = ap (λ (c : Chars). delivery_named h (label_of c)) dc ∙ di;
            kept = kb.0;
            below = kb.1;
            percents = ltb-false 100 (percents_of h i + percent) p;
            is = accepted_same _ after e;
          };
        }

-- Any line.

-- the entry of a line
pub data Entry (h : Hour) (l : Line) (after : Hour) : Type 0 where
  source : (x : Source) → source_line x ≡ l → SourceTaken h x after → Entry h l after
  delivery : (x : Delivery) → delivery_line x ≡ l → DeliveryTaken h x after → Entry h l after
  direct : (x : Direct) → direct_line h x ≡ l → DirectTaken h x after → Entry h l after

pub record Taken (h : Hour) (l : Line) (after : Hour) : Type 0 where
  pub within : line_ranged l ≡ true
  pub not_end : is_end l.letter ≡ false
  pub entry : Entry h l after

unit_line_lem : (v : Fields Chars (fields_of U)) → source_line (unit_of v) ≡ line U v
unit_line_lem v =
    ap (λ (c : Chars). line U (v.0, (v.1.0, (v.1.1.0, (v.1.1.1.0, (v.1.1.1.1.0, (v.1.1.1.1.1.0, (v.1.1.1.1.1.1.0, (v.1.1.1.1.1.1.1.0, (v.1.1.1.1.1.1.1.1.0, (v.1.1.1.1.1.1.1.1.1.0, (c, tt))))))))))))
    (chars_label v.1.1.1.1.1.1.1.1.1.1.0)

purchase_line_lem : (v : Fields Chars (fields_of P)) → source_line (purchase_of v) ≡ line P v
purchase_line_lem v = ap (λ (c : Chars). line P (v.0, (v.1.0, (c, tt)))) (chars_label v.1.1.0)

fixed_line_lem : (v : Fields Chars (fields_of F)) → source_line (fixed_of v) ≡ line F v
fixed_line_lem v = ap (λ (c : Chars). line F (v.0, (c, tt))) (chars_label v.1.0)

delivery_line_lem : (v : Fields Chars (fields_of T)) → delivery_line (delivery_of v) ≡ line T v
delivery_line_lem v = ap (λ (c : Chars). line T (v.0, (v.1.0, (v.1.1.0, (v.1.1.1.0, (c, tt)))))) (chars_label v.1.1.1.1.0)

source_entry : (h : Hour) (l : Line) (x : Source) (after : Hour) → source_line x ≡ l → is_end l.letter ≡ false → source_taken h (line_ranged l) x ≡ accepted after
    → Taken h l after
source_entry h l x after is n e = let t = source_taken_lem h (line_ranged l) x after e in record { within = t.0; not_end = n; entry = source x is t.1 }

taken_as_lem : (h : Hour) (l : Letter) (v : Fields Chars (fields_of l)) (after : Hour) → taken_as h l v ≡ accepted after → Taken h (line l v) after
taken_as_lem h H v after e = refused_not_accepted _ after e
taken_as_lem h U v after e = source_entry h (line U v) (unit_of v) after (unit_line_lem v) refl e
taken_as_lem h P v after e = source_entry h (line P v) (purchase_of v) after (purchase_line_lem v) refl e
taken_as_lem h F v after e = source_entry h (line F v) (fixed_of v) after (fixed_line_lem v) refl e
taken_as_lem h T v after e = let t = delivery_taken_lem h (ranged (fields_of T) v) (delivery_of v) after e in record { within = t.0; not_end = refl; entry = delivery (delivery_of v) (delivery_line_lem v) t.1 }
taken_as_lem h D v after e =
    let t = direct_taken_lem h (ranged (fields_of D) v) v.0 v.1.0 v.1.1.0 v.1.1.1.0 after e in
    record { within = t.within; not_end = refl; entry = direct t.entry t.line_is t.entry_taken }
taken_as_lem h E v after e = refused_not_accepted _ after e

pub taken_passed : (h : Hour) (l : Line) (after : Hour) → taken h l ≡ accepted after → Taken h l after
unfolding reading.taken
taken_passed h l after e = taken_as_lem h l.letter l.fields after e

-- The first line.

pub record Headed (l : Line) (h : Hour) : Type 0 where
  pub is : l ≡ head_line h
  pub starts : started h.losses ≡ h
  pub within : line_ranged l ≡ true

headed_as_lem : (l : Letter) (v : Fields Chars (fields_of l)) (h : Hour) → headed_as l v ≡ accepted h → Headed (line l v) h
unfolding record_of.started
headed_as_lem H v h e =
    let a = refuse_passed (not (ranged (fields_of H) v)) (Range 1) (accepted (started v.0)) h e in
    subst (Headed (line H v)) (accepted_same (started v.0) h a.1) (record { is = refl; starts = refl; within = not_false _ a.0 })
headed_as_lem U v h e = refused_not_accepted _ h e
headed_as_lem P v h e = refused_not_accepted _ h e
headed_as_lem F v h e = refused_not_accepted _ h e
headed_as_lem T v h e = refused_not_accepted _ h e
headed_as_lem D v h e = refused_not_accepted _ h e
headed_as_lem E v h e = refused_not_accepted _ h e

pub headed_passed : (l : Line) (h : Hour) → headed l ≡ accepted h → Headed l h
unfolding reading.headed
headed_passed l h e = headed_as_lem l.letter l.fields h e

-- After E.

-- an hour that passes 10 and 11 is itself
pub record Finished (h after : Hour) : Type 0 where
  pub same : h ≡ after
  pub drawn : h.losses + delivered h ≤ generated h
  pub placed : unplaced h ≡ none

pub finished_passed : (h after : Hour) → finished h ≡ accepted after → Finished h after
unfolding reading.finished
finished_passed h after e =
    let a = refuse_passed (ltb (generated h) (h.losses + delivered h)) Overdrawn _ after e in
    go (ltb-false (generated h) (h.losses + delivered h) a.0) (unplaced h) refl a.1
  where
    go : h.losses + delivered h ≤ generated h → (u : Option ℕ) → unplaced h ≡ u → all_placed h u ≡ accepted after → Finished h after
    go d none ue e = record { same = accepted_same h after e; drawn = d; placed = ue }
    go d (some i) ue e = refused_not_accepted _ after e
