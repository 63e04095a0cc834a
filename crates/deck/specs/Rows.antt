-- What the loop over a deck's lines keeps, turn by turn, and what each way out of it gives.
use Rattle.std.specs.Prelude.{◌≡◌, refl, Bool, true, false, List, eqb, length, get_or, drop, set, Result, Ok, Err}
use Rattle.std.proofs.Math.Path.{ap, sym}
use Rattle.std.proofs.Common.{subst, ◌∙◌, arith, get_or-set_same, get_or-set_other, eqb-true, eq-eqb, ne_eqb}
use Rattle.std.proofs.Math.Option.{some}
use Prim.Native.Nat.{ℕ, suc, ◌+◌, ◌-◌, ◌<◌, ◌≤◌}
use Rattle.std.proofs.Math.ListN.{get_or-eq_default}
use Rattle.rules.specs.Words.{when◌then◌else◌}
use Rattle.rules.specs.Answers.{verdict_of}
use Rattle.rules.specs.Refusals.{Outcome, accepted, refused}
use Rattle.rules.specs.Sequences.{no_delivery}
use Rattle.rules.specs.Fields.{Field, got, malformed, byte, byte_at, escape}
use Rattle.rules.specs.Lines as lines
use Rattle.rules.specs.Lines.{T, D, E, letter_of, line, places_at}
use Rattle.rules.specs.Record as record_of
use Rattle.rules.specs.Record.{chars, no_source, started, with_source, with_delivery, with_direct}
use Rattle.rules.specs.Reading.{line_number, finished, lines_from}
use Rattle.rules.specs.Places as places
use Rattle.rules.specs.Places.{past, line_start, label_start, part_start}
use Rattle.rules.specs.declared.Source.{Source}
use Rattle.rules.specs.declared.Delivery.{Delivery}
use Rattle.rules.specs.declared.Hour.{Hour}
use Rattle.rules.specs.declared.Refusal.{Refusal}
use Rattle.rules.specs.declared.Refusal.TheVariants.{Form}
use Rattle.laws.specs.Answers.{verdict_accepted}
use Rattle.laws.specs.Choices.{true_not_false, refused_not_accepted, accepted_same}
use Rattle.roundtrip.specs.Taken.{finished_passed}
use Rattle.roundtrip.specs.Loop.{Going, goes_malformed, goes_end, goes_past}
use Rattle.read_fields.specs.Answers.{step_of}
use Rattle.read_lines.specs.Answers.{delivery_line, direct_line}
use Rattle.line_rules.specs.Spellings.{spelling_of}
use Rattle.line_rules.specs.Tried.{counts_of, Few, next_line, Tables, unit_high, basis_code, above_one, above_all}
use Rattle.line_rules.specs.Kept.{Kept}
use Rattle.line_rules.specs.TablesKept.{no_tables, kept_started}
use Rattle.line_rules.specs.Totalled.{no_totals, finished_by, Totalled, totalled_none, totalled_source, totalled_delivery, finished_by_lem}
use Rattle.line_rules.specs.declared.Counts.{Counts}
use Rattle.line_rules.specs.declared.Totals.{Totals}
use Rattle.deck.specs.Answers.{Scanned}
use Rattle.deck.specs.Entries.{NextSource, NextDelivery, KeepsAll}
use Rattle.deck.specs.declared.ScannedDeck.{ScannedDeck}
use Rattle.deck.specs.Steps.{source_from, delivery_step, direct_step, end_verdict}
use Rattle.deck.specs.Turns.{line_got, line_malformed, line_none, SourceTakes, SourceTurn, DeliveryTakes, DeliveryTurn, DirectTakes, DirectTurn, source_at_turn, delivery_at_turn, direct_at_turn}
use Rattle.deck.specs.declared.Step.{Step}
use Rattle.deck.specs.declared.DirectStep.{DirectStep}

-- What a loop over the lines keeps: the hour so far, with its tables and its totals, from which reading goes on.

pub record Reads (s : List ℕ) (o : Outcome Hour) (h : Hour) (t : Tables) (u : Totals) (at : ℕ) : Type 0 where
  pub going : Going s h at o
  pub kept : Kept h t
  pub totalled : Totalled h.sources h.nsources h.deliveries h.ndeliveries u

pub reads_start : (s : List ℕ) (losses from : ℕ) → Reads s (lines_from (length s) s (started losses) from) (started losses) no_tables no_totals from
unfolding record_of.started
reads_start s losses from =
    record { going = record { fuel = length s; enough = omega arith; same = refl }; kept = kept_started losses; totalled = totalled_none _ _ }

-- the verdict on the deck where it ends, and the hour where it is taken
pub record Whole (o : Outcome Hour) (h : Hour) (v : Result (Unit {0}) Refusal) : Type 0 where
  pub verdict : v ≡ verdict_of o
  pub hour : v ≡ (Ok tt) → o ≡ accepted h

whole_refused : (o : Outcome Hour) (h : Hour) (r : Refusal) → o ≡ refused r → Whole o h (Err r)
whole_refused o h r e = record { verdict = rw e; hour = λ k. absurd cc }

-- an hour that passes 10 and 11 is the deck's
whole_finished : (o : Outcome Hour) (h : Hour) → o ≡ finished h → Whole o h (verdict_of (finished h))
whole_finished o h e =
    record { verdict = rw e; hour = λ k. let a = verdict_accepted (finished h) k in e ∙ a.1 ∙ ap accepted (sym (finished_passed h a.0 a.1).same) }

-- the sources and the deliveries before the one that is set
set_before : {A : Type 0} (xs : List A) (n : ℕ) (x default : A) (i : ℕ) → i < n → get_or (set xs n x) i default ≡ get_or xs i default
set_before xs n x default i l = get_or-set_other xs n i x default (λ e. omega arith)

-- What a line's contract tells of the totals and of the tables after it.

abbrev pub SourceKept : Counts → Tables → Totals → Step Source → List ℕ → List ℕ → List ℕ → Type 0
SourceKept n t u x slo shi high =
    (x.totals.generated ≤ u.generated + above_one)
    × ((slo ≡ set t.slo n.sources (spelling_of x.entry.label).lo)
    × ((shi ≡ set t.shi n.sources (spelling_of x.entry.label).hi) × (high ≡ set t.high n.sources (unit_high x.entry.plant))))

abbrev pub DeliveryKept : Counts → Tables → Totals → Step Delivery → List ℕ → List ℕ → Type 0
DeliveryKept n t u x tlo thi =
    (x.totals.delivered ≤ u.delivered + above_one)
    × ((tlo ≡ set t.tlo n.deliveries (spelling_of x.entry.label).lo) × (thi ≡ set t.thi n.deliveries (spelling_of x.entry.label).hi))

abbrev pub DirectKept : Tables → DirectStep → List ℕ → List ℕ → Type 0
DirectKept t x based percents =
    (based ≡ set t.based x.entry.source (basis_code x.entry.basis))
    × (percents ≡ set t.percents x.entry.source (get_or t.percents x.entry.source 0 + x.entry.percent))

module _ {s : List ℕ} {o : Outcome Hour} {h : Hour} {t : Tables} {u : Totals} {at : ℕ} (w : Reads s o h t u at) {n : Counts} (ne : n ≡ counts_of h) where
  -- What the line at hand asks.

  pub few : Few n
  few = subst Few (sym ne) w.kept.few

  pub generated_most : u.generated ≤ above_all
  generated_most = omega (arith, w.totalled.most_generated, w.kept.few.sources)

  pub delivered_most : u.delivered ≤ above_all
  delivered_most = omega (arith, w.totalled.most_delivered, w.kept.few.deliveries)

  -- The line at hand.

  pub direct_turn : (r : Result DirectStep Refusal) → r ≡ direct_step s n t (direct_line (places_at s (at + 1) D)) → byte s at ≡ 68 → DirectTurn s h t at r
  direct_turn r e b = subst (DirectTurn s h t at) (sym (e ∙ ap (λ (n : Counts). direct_step s n t (direct_line (places_at s (at + 1) D))) ne)) (direct_at_turn s h t w.kept at b)

  pub delivery_turn : (r : Result (Step Delivery) Refusal) → r ≡ delivery_step s n u t.tlo t.thi (delivery_line (places_at s (at + 1) T)) → byte s at ≡ 84 → DeliveryTurn s h t u at r
  delivery_turn r e b =
      subst (DeliveryTurn s h t u at) (sym (e ∙ ap (λ (n : Counts). delivery_step s n u t.tlo t.thi (delivery_line (places_at s (at + 1) T))) ne)) (delivery_at_turn s h t u w.kept at b)

  pub source_turn : (r : Result (Step Source) Refusal) (b : ℕ) → r ≡ source_from s (at + 1) b n u t.slo t.shi → byte s at ≡ b → (b ≡ 68 → ⊥) → (b ≡ 84 → ⊥) → (b ≡ 69 → ⊥) → SourceTurn s h t u at r
  source_turn r b e be d d' d'' =
      subst (SourceTurn s h t u at) (sym (e ∙ ap (λ (n : Counts). source_from s (at + 1) b n u t.slo t.shi) ne)) (source_at_turn s h t u w.kept at b be d d' d'')

  -- One entry more.

  pub reads_source : (x : Step Source) → SourceTakes s h t u at x → (slo shi high : List ℕ) → SourceKept n t u x slo shi high
      → Reads s o (with_source h x.entry) (record { slo = slo; shi = shi; tlo = t.tlo; thi = t.thi; high = high; based = t.based; percents = t.percents }) x.totals x.next
  reads_source x k slo shi high told =
      record {
        going = k.goes o w.going;
        kept = rw (told.1.0, told.1.1.0, told.1.1.1, ne) k.kept;
        totalled = totalled_source h.sources h.nsources h.deliveries h.ndeliveries u w.totalled (set h.sources h.nsources x.entry) x.entry x.totals
            (set_before h.sources h.nsources x.entry no_source) (get_or-set_same h.sources h.nsources x.entry no_source (omega (arith, k.room, w.kept.sources_size))) k.totalled told.0;
      }

  pub reads_delivery : (x : Step Delivery) → DeliveryTakes s h t u at x → (tlo thi : List ℕ) → DeliveryKept n t u x tlo thi
      → Reads s o (with_delivery h x.entry) (record { slo = t.slo; shi = t.shi; tlo = tlo; thi = thi; high = t.high; based = t.based; percents = t.percents }) x.totals x.next
  reads_delivery x k tlo thi told =
      record {
        going = k.goes o w.going;
        kept = rw (told.1.0, told.1.1, ne) k.kept;
        totalled = totalled_delivery h.sources h.nsources h.deliveries h.ndeliveries u w.totalled (set h.deliveries h.ndeliveries x.entry) x.entry x.totals
            (set_before h.deliveries h.ndeliveries x.entry no_delivery) (get_or-set_same h.deliveries h.ndeliveries x.entry no_delivery (omega (arith, k.room, w.kept.deliveries_size))) k.totalled told.0;
      }

  pub reads_direct : (x : DirectStep) → DirectTakes s h t at x → (based percents : List ℕ) → DirectKept t x based percents
      → Reads s o (with_direct h x.entry) (record { slo = t.slo; shi = t.shi; tlo = t.tlo; thi = t.thi; high = t.high; based = based; percents = percents }) u x.next
  reads_direct x k based percents told = record { going = k.goes o w.going; kept = rw (told.0, told.1) k.kept; totalled = w.totalled }

  -- Ways out.

  pub reads_ended : length s ≤ at → o ≡ refused (Form (next_line n))
  unfolding lines.letter_of
  reads_ended le = goes_malformed s h at o w.going (line_none s at (rw (get_or-eq_default s 0 le))) ∙ ap (λ (n : Counts). refused (Form (next_line n))) (sym ne)

  -- at E: it, or what stands after it, refuses the deck, or 10 and 11 have the verdict on the hour
  pub reads_whole : byte s at ≡ 69 → (losses : ℕ) → losses ≡ h.losses → (v : Result (Unit {0}) Refusal) → v ≡ end_verdict (length s) (next_line n) (finished_by n losses u) (step_of (byte_at s (at + 1) 10)) → Whole o h v
  unfolding lines.letter_of lines.places_at lines.fields_at
  reads_whole be losses le v ve = rw (ve, ne, le, finished_by_lem h u w.totalled) (go (byte_at s (at + 1) 10) refl)
    where
      b : letter_of (byte s at) ≡ some E
      b = ap letter_of be

      past : (next : ℕ) → byte_at s (at + 1) 10 ≡ got tt next → (z : Bool) → eqb next (length s) ≡ z → Whole o h (when z then verdict_of (finished h) else Err (Form (line_number h + 1)))
      past next e true ze = whole_finished o h (goes_end s h at o w.going (line E tt) next (line_got s at E b tt next (rw e)) refl (eqb-true next (length s) ze))
      past next e false ze =
          whole_refused o h _
          (goes_past s h at o w.going (line E tt) next (line_got s at E b tt next (rw e)) refl (λ q. true_not_false (sym (eq-eqb next (length s) q) ∙ ze)))

      go : (x : Field (Unit {0})) → byte_at s (at + 1) 10 ≡ x → Whole o h (end_verdict (length s) (line_number h) (verdict_of (finished h)) (step_of x))
      go (got y next) e = past next e (eqb next (length s)) refl
      go malformed e = whole_refused o h _ (goes_malformed s h at o w.going (line_malformed s at E b (rw e)))

-- What the loop keeps: the counts, the tables and the totals of some hour, from which reading goes on, and what is kept of that hour; the next line starts here.

pub record Rows {K : Type 0} (keeps : List ℕ → Hour → K → Type 0) (s : List ℕ) (o : Outcome Hour) (losses : ℕ) (n : Counts) (t : Tables) (u : Totals) (kept : K) (at : ℕ) : Type 0 where
  pub hour : Hour
  pub counts : n ≡ counts_of hour
  pub losses_are : losses ≡ hour.losses
  pub reads : Reads s o hour t u at
  pub line : at ≡ line_start s (line_number hour - 1)
  pub entries : keeps s hour kept

pub rows_started : {K : Type 0} (keeps : List ℕ → Hour → K → Type 0) (s : List ℕ) (losses from : ℕ) (kept : K) → from ≡ line_start s 1 → keeps s (started losses) kept
    → Rows keeps s (lines_from (length s) s (started losses) from) losses (record { sources = 0; deliveries = 0; directs = 0 }) no_tables no_totals kept from
unfolding record_of.started
rows_started keeps s losses from kept first e =
    record { hour = started losses; counts = refl; losses_are = refl; reads = reads_start s losses from; line = first; entries = e }

module _ {K : Type 0} {keeps : List ℕ → Hour → K → Type 0} {s : List ℕ} {o : Outcome Hour} {losses : ℕ} {n : Counts} {t : Tables} {u : Totals} {kept : K} {at : ℕ}
    (w : Rows keeps s o losses n t u kept at) where
  -- the line after this one, by the hour after it
  line_after : (next : ℕ) (after : Hour) → next ≡ at + past 10 (drop at s) → line_number after ≡ line_number w.hour + 1 → next ≡ line_start s (line_number after - 1)
  unfolding places.line_start
  line_after next after e n =
      let k : line_number after - 1 ≡ suc (line_number w.hour - 1) = omega (arith, n) in
      e ∙ ap (λ (m : ℕ). m + past 10 (drop m s)) w.line ∙ sym (ap (line_start s) k)

  -- the label of the line at hand, which is the k-th after the first
  label_here : (k from : ℕ) (text : List ℕ) → line_number w.hour ≡ k + 1 → from ≡ at + past 34 (drop at s) → 1 ≤ length text → from ≡ part_start (label_start s k) (length text)
  unfolding places.label_start
  label_here k from text order e bytes =
      let n : line_number w.hour - 1 ≡ k = omega (arith, order) in
      rw (ne_eqb (length text) 0 (λ z. omega arith)) (e ∙ ap (λ (m : ℕ). m + past 34 (drop m s)) (w.line ∙ ap (line_start s) n))

  -- The line at hand: it refuses the deck, or it is taken.

  pub direct_refuses : (r : Refusal) → Err r ≡ direct_step s n t (direct_line (places_at s (at + 1) D)) → byte s at ≡ 68 → o ≡ refused r
  direct_refuses r e b = direct_turn w.reads w.counts (Err r) e b o w.reads.going

  pub direct_takes : (x : DirectStep) → Ok x ≡ direct_step s n t (direct_line (places_at s (at + 1) D)) → byte s at ≡ 68 → DirectTakes s w.hour t at x
  direct_takes x e b = direct_turn w.reads w.counts (Ok x) e b

  pub delivery_refuses : (r : Refusal) → Err r ≡ delivery_step s n u t.tlo t.thi (delivery_line (places_at s (at + 1) T)) → byte s at ≡ 84 → o ≡ refused r
  delivery_refuses r e b = delivery_turn w.reads w.counts (Err r) e b o w.reads.going

  pub delivery_takes : (x : Step Delivery) → Ok x ≡ delivery_step s n u t.tlo t.thi (delivery_line (places_at s (at + 1) T)) → byte s at ≡ 84 → DeliveryTakes s w.hour t u at x
  delivery_takes x e b = delivery_turn w.reads w.counts (Ok x) e b

  -- any line but D, T and E
  module _ (d : byte s at ≡ 68 → ⊥) (t' : byte s at ≡ 84 → ⊥) (e' : byte s at ≡ 69 → ⊥) where
    pub source_refuses : (r : Refusal) → Err r ≡ source_from s (at + 1) (byte s at) n u t.slo t.shi → o ≡ refused r
    source_refuses r e = source_turn w.reads w.counts (Err r) _ e refl d t' e' o w.reads.going

    pub source_takes : (x : Step Source) → Ok x ≡ source_from s (at + 1) (byte s at) n u t.slo t.shi → SourceTakes s w.hour t u at x
    source_takes x e = source_turn w.reads w.counts (Ok x) _ e refl d t' e'

  -- One entry more.

  pub next_source : (x : Step Source) → SourceTakes s w.hour t u at x → NextSource s w.hour n.sources x.entry x.place
  next_source x k =
      record {
        index = ap (λ (n : Counts). n.sources) w.counts;
        size = w.reads.kept.sources_size;
        alone = omega (arith, k.ordered);
        label = record { holds = k.holds; starts = label_here (w.hour.nsources + 1) x.place.from (escape (chars x.entry.label)) k.ordered k.starts k.some };
      }

  pub rows_source : (x : Step Source) → SourceTakes s w.hour t u at x → (slo shi high : List ℕ) → SourceKept n t u x slo shi high → (after : K) → keeps s (with_source w.hour x.entry) after
      → Rows keeps s o losses (record { sources = n.sources + 1; deliveries = n.deliveries; directs = n.directs })
      (record { slo = slo; shi = shi; tlo = t.tlo; thi = t.thi; high = high; based = t.based; percents = t.percents }) x.totals after x.next
  rows_source x k slo shi high told after e =
      record {
        hour = with_source w.hour x.entry;
        counts = ap (λ (n : Counts). record { sources = n.sources + 1; deliveries = n.deliveries; directs = n.directs }) w.counts;
        losses_are = w.losses_are;
        reads = reads_source w.reads w.counts x k slo shi high told;
        line = line_after x.next (with_source w.hour x.entry) k.ends (omega arith);
        entries = e;
      }

  pub next_delivery : (x : Step Delivery) → DeliveryTakes s w.hour t u at x → NextDelivery s w.hour n.deliveries x.entry x.place
  next_delivery x k =
      record {
        index = ap (λ (n : Counts). n.deliveries) w.counts;
        size = w.reads.kept.deliveries_size;
        label = record { holds = k.holds; starts = label_here (w.hour.nsources + w.hour.ndeliveries + 1) x.place.from (escape (chars x.entry.label)) k.ordered k.starts k.some };
      }

  pub rows_delivery : (x : Step Delivery) → DeliveryTakes s w.hour t u at x → (tlo thi : List ℕ) → DeliveryKept n t u x tlo thi → (after : K) → keeps s (with_delivery w.hour x.entry) after
      → Rows keeps s o losses (record { sources = n.sources; deliveries = n.deliveries + 1; directs = n.directs })
      (record { slo = t.slo; shi = t.shi; tlo = tlo; thi = thi; high = t.high; based = t.based; percents = t.percents }) x.totals after x.next
  rows_delivery x k tlo thi told after e =
      record {
        hour = with_delivery w.hour x.entry;
        counts = ap (λ (n : Counts). record { sources = n.sources; deliveries = n.deliveries + 1; directs = n.directs }) w.counts;
        losses_are = w.losses_are;
        reads = reads_delivery w.reads w.counts x k tlo thi told;
        line = line_after x.next (with_delivery w.hour x.entry) k.ends (omega arith);
        entries = e;
      }

  pub rows_direct : (x : DirectStep) → DirectTakes s w.hour t at x → (based percents : List ℕ) → DirectKept t x based percents → (after : K) → keeps s (with_direct w.hour x.entry) after
      → Rows keeps s o losses (record { sources = n.sources; deliveries = n.deliveries; directs = n.directs + 1 })
      (record { slo = t.slo; shi = t.shi; tlo = t.tlo; thi = t.thi; high = t.high; based = based; percents = percents }) u after x.next
  rows_direct x k based percents told after e =
      record {
        hour = with_direct w.hour x.entry;
        counts = ap (λ (n : Counts). record { sources = n.sources; deliveries = n.deliveries; directs = n.directs + 1 }) w.counts;
        losses_are = w.losses_are;
        reads = reads_direct w.reads w.counts x k based percents told;
        line = line_after x.next (with_direct w.hour x.entry) k.ends (omega arith);
        entries = e;
      }

  -- what is kept is that of the deck's hour where it is whole
  pub rows_kept : (v : Result (Unit {0}) Refusal) → Whole o w.hour v → (h : Hour) → o ≡ accepted h → keeps s h kept
  rows_kept (Ok u) e h oe = let same : w.hour ≡ h = accepted_same _ h (sym (e.hour refl) ∙ oe) in subst (λ (h : Hour). keeps s h kept) same w.entries
  rows_kept (Err r) e h oe = let k = e.verdict in let z : verdict_of o ≡ Ok tt = ap verdict_of oe in absurd cc

-- nothing is kept of a deck that is refused
pub refused_kept : {B : Type 0} (o : Outcome Hour) (r : Refusal) → o ≡ refused r → (h : Hour) → o ≡ accepted h → B
refused_kept o r e h k = refused_not_accepted r h (sym e ∙ k)

-- The whole deck.

pub scanned_refused : (s : List ℕ) (o : Outcome Hour) (r : Refusal) → o ≡ refused r → Scanned s o (Err r)
scanned_refused s o r e = rw e (record { answer = refl; sources = tt; deliveries = tt })

pub answer_refused : (s : List ℕ) (o : Outcome Hour) (r : Refusal) (x : Result ScannedDeck Refusal) → x ≡ Err r → o ≡ refused r → Scanned s o x
answer_refused s o r x e k = subst (Scanned s o) (sym e) (scanned_refused s o r k)

-- what was kept of a deck that is accepted
pub scanned_kept : (s : List ℕ) (o : Outcome Hour) (x : ScannedDeck) → Ok tt ≡ verdict_of o → ((h : Hour) → o ≡ accepted h → KeepsAll s h x) → Scanned s o (Ok x)
scanned_kept s (accepted h) x e k =
    let w = k h refl in
    record { answer = ap Ok w.hour; sources = w.sources; deliveries = w.deliveries }
scanned_kept s (refused r) x e k = absurd cc

-- what the loop keeps, where the deck ends and the verdict on it accepts
pub rows_accepted : {s : List ℕ} {o : Outcome Hour} {losses : ℕ} {n : Counts} {t : Tables} {u : Totals} {x : ScannedDeck} {at : ℕ} (w : Rows KeepsAll s o losses n t u x at)
    (v : Result (Unit {0}) Refusal) → Whole o w.hour v → v ≡ Ok tt → Scanned s o (Ok x)
rows_accepted {s} {o} {x = x} w v e a = scanned_kept s o x (sym a ∙ e.verdict) (rows_kept w v e)
