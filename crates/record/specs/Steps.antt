-- The loops over a record's own places: their steps and their ends.
use Rattle.std.specs.Prelude.{◌≡◌, refl, Bool, true, false, ◌&&◌, ◌||◌, List, ℕ, suc, ◌+◌, ◌<◌, ◌≤◌, min, ltb, get_or, set}
use Rattle.std.proofs.Common.{ap, sym, ◌∙◌, arith, lt-ltb, le-ltb}
use Rattle.std.proofs.Math.Decide.{dec_lt}
use Rattle.rules.specs.Words.{when◌then◌else◌, all_to}
use Rattle.rules.specs.Group.{no_direct}
use Rattle.rules.specs.Sequences.{no_delivery}
use Rattle.rules.specs.Record.{no_source, blank_source, blank_delivery}
use Rattle.rules.specs.declared.Hour.{Hour}
use Rattle.line_rules.specs.Finds.{all_to_zero}
use Rattle.line_rules.specs.Tried.{counts_of, unit_high, basis_code, above_one}
use Rattle.line_rules.specs.Totalled.{no_totals, source_totalled, delivery_totalled, Totalled, totalled_none, totalled_source, totalled_delivery}
use Rattle.line_rules.specs.declared.Totals.{Totals}
use Rattle.record.specs.ShapeTells.{blank_source_lem, blank_delivery_lem}
use Rattle.record.specs.Loops.{all_to_on, all_to_fails, all_to_each, all_to_from}
use Rattle.record.specs.Own as own
use Rattle.record.specs.Own.{fill_to, zeros, source_spelling, delivery_spelling, slos_to, shis_to, highs_to, tlos_to, this_to, based_to, percents_to, source_stands, delivery_stands, direct_stands, set_if, stands, source_stands_at, delivery_stands_at, direct_stands_at}

-- All places.

module _ (own blank : ℕ → Bool) (n : ℕ) where
  pub entries_own : n ≤ 32 → all_to (stands own blank n) 32 ≡ true → all_to own n ≡ true
  entries_own few e = all_to_from own n (λ i l. rw (lt-ltb i n l) at (all_to_each (stands own blank n) 32 e i (omega arith)))

  pub rest_blank : all_to (stands own blank n) 32 ≡ true → (i : ℕ) → n ≤ i → i < 32 → blank i ≡ true
  rest_blank e i l m = rw (le-ltb i n l) at (all_to_each (stands own blank n) 32 e i m)

  pub all_stand : all_to own n ≡ true → ((i : ℕ) → n ≤ i → i < 32 → blank i ≡ true) → all_to (stands own blank n) 32 ≡ true
  all_stand e f = all_to_from (stands own blank n) 32 (λ i l. elim (dec_lt i n) [
    | yes k ↦ rw (lt-ltb i n k) (all_to_each own n e i k)
    | no k ↦ rw (le-ltb i n (omega arith)) (f i (omega arith) l)
  ])

-- One place more.

-- i places, of which the first n have an entry: what is kept of these
module _ (n i : ℕ) where
  at_entry : i < n → (min i n ≡ i) × (min (i + 1) n ≡ suc i)
  at_entry l = (omega arith, omega arith)

  at_blank : n ≤ i → min (i + 1) n ≡ min i n
  at_blank l = omega arith

  -- its test, by tables that are those of the entries before it
  place_here : (r own own' blank : Bool) → r ≡ (when ltb i n then own' else blank) → (i < n → own' ≡ own) → (when ltb i n then own else blank) ≡ r
  place_here r own own' blank e same = sym (e ∙ elim (dec_lt i n) [ yes l ↦ rw (lt-ltb i n l, same l) | no l ↦ rw (le-ltb i n (omega arith)) ])

  -- a table: it has the entry of a place that stands
  table_on : (to : ℕ → List ℕ) (before after now : List ℕ) (r : Bool) → r ≡ true → before ≡ to (min i n) → (before ≡ to i → after ≡ to (suc i))
      → now ≡ (when ltb i n && r then after else before) → now ≡ to (min (i + 1) n)
  table_on to before after now r is p on e = elim (dec_lt i n) [
    | yes l ↦ rw (lt-ltb i n l, is) at e ∙ on (p ∙ ap to (at_entry l).0) ∙ ap to (sym (at_entry l).1)
    | no l ↦ rw (le-ltb i n (omega arith)) at e ∙ p ∙ ap to (sym (at_blank (omega arith)))
  ]

  fill_on : (f : ℕ → ℕ) (before now : List ℕ) (r : Bool) → r ≡ true → before ≡ fill_to f zeros (min i n) → now ≡ set_if (ltb i n && r) before i (f i) → now ≡ fill_to f zeros (min (i + 1) n)
  unfolding own.fill_to
  fill_on f before now r is p e = table_on (fill_to f zeros) before (set before i (f i)) now r is p (λ q. rw q) e

  -- the totals: a blank place adds nothing
  totals_on : (P : ℕ → Totals → Type 0) (t u v : Totals) → P (min i n) t → u ≡ v → (i < n → P i t → P (i + 1) u) → (n ≤ i → v ≡ t) → P (min (i + 1) n) u
  totals_on P t u v k e on none = elim (dec_lt i n) [
    | yes l ↦ (let a : min (i + 1) n ≡ i + 1 = omega arith in rw a (on l (rw (at_entry l).0 at k)))
    | no l ↦ rw (at_blank (omega arith), e ∙ none (omega arith)) k
  ]

-- after all 32 places what is kept is of all n entries
pub places_all : (P : ℕ → ℕ → Type 0) (i n : ℕ) → P i (min i n) → n ≤ 32 → i ≤ 32 → 32 ≤ i → P 32 n
places_all P i n p few most all =
    let a : i ≡ 32 = omega arith in
    let b : min i n ≡ n = omega arith in
    rw (b, a) at p

same_totals : (t : Totals) (g d : ℕ) (b : Bool) → g ≡ t.generated → d ≡ t.delivered → b ≡ t.numbered → record { generated = g; delivered = d; numbered = b } ≡ t
same_totals t g d b p q r = rw (p, q, r)

or_false : (b : Bool) → (b || false) ≡ b
or_false true = refl
or_false false = refl

-- the first i places of sources stand, and the first m entries are in the tables and the totals
pub record SourcesTo (h : Hour) (lo hi high : List ℕ) (t : Totals) (i m : ℕ) : Type 0 where
  pub stand : all_to (source_stands_at h) i ≡ true
  pub los : lo ≡ slos_to h.sources m
  pub his : hi ≡ shis_to h.sources m
  pub highs : high ≡ highs_to h.sources m
  pub totals : Totalled h.sources m h.deliveries 0 t

pub sources_none : (h : Hour) → SourcesTo h zeros zeros zeros no_totals 0 (min 0 h.nsources)
unfolding own.fill_to
sources_none h =
    let none : min 0 h.nsources ≡ 0 = omega arith in
    rw none (record { stand = all_to_zero _; los = refl; his = refl; highs = refl; totals = totalled_none _ _ })

module _ (h : Hour) (i : ℕ) (lo hi high : List ℕ) (t : Totals) (s : SourcesTo h lo hi high t i (min i h.nsources)) (r : Bool)
    (e : r ≡ source_stands (counts_of h) i (get_or h.sources i no_source) lo hi) where
  source_here : source_stands_at h i ≡ r
  unfolding own.source_stands
  source_here = place_here h.nsources i r _ _ _ e (λ l. rw (s.los, s.his, (at_entry h.nsources i l).0))

  source_blank_lem : r ≡ true → h.nsources ≤ i → get_or h.sources i no_source ≡ blank_source
  unfolding own.source_stands
  source_blank_lem is l = blank_source_lem _ (rw (le-ltb i h.nsources l) at (sym e ∙ is))

  pub source_fails : r ≡ false → i < 32 → all_to (source_stands_at h) 32 ≡ false
  source_fails is l = all_to_fails (source_stands_at h) 32 i l (source_here ∙ is)

  pub sources_on : r ≡ true → (lo' hi' high' : List ℕ) (u : Totals) → lo' ≡ set_if (ltb i h.nsources && r) lo i (source_spelling h.sources i).lo
      → hi' ≡ set_if (ltb i h.nsources && r) hi i (source_spelling h.sources i).hi → high' ≡ set_if (ltb i h.nsources && r) high i (unit_high (get_or h.sources i no_source).plant)
      → u ≡ source_totalled t (get_or h.sources i no_source).plant → u.generated ≤ t.generated + above_one → SourcesTo h lo' hi' high' u (i + 1) (min (i + 1) h.nsources)
  sources_on is lo' hi' high' u p q w sum most =
      let n = h.nsources in
      record {
        stand = all_to_on (source_stands_at h) i s.stand (source_here ∙ is);
        los = fill_on n i _ lo lo' r is s.los p;
        his = fill_on n i _ hi hi' r is s.his q;
        highs = fill_on n i _ high high' r is s.highs w;
        totals = totals_on n i (λ i t. Totalled h.sources i h.deliveries 0 t) t u (source_totalled t (get_or h.sources i no_source).plant) s.totals sum
            (λ l k. totalled_source h.sources i h.deliveries 0 t k h.sources (get_or h.sources i no_source) u (λ i l. refl) refl sum most)
            (λ l. rw (source_blank_lem is l) (same_totals t _ _ _ (omega arith) refl refl));
      }

-- of deliveries, after all sources
pub record DeliveriesTo (h : Hour) (lo hi : List ℕ) (t : Totals) (j m : ℕ) : Type 0 where
  pub stand : all_to (delivery_stands_at h) j ≡ true
  pub los : lo ≡ tlos_to h.deliveries m
  pub his : hi ≡ this_to h.deliveries m
  pub totals : Totalled h.sources h.nsources h.deliveries m t

pub deliveries_none : (h : Hour) (t : Totals) → Totalled h.sources h.nsources h.deliveries 0 t → DeliveriesTo h zeros zeros t 0 (min 0 h.ndeliveries)
unfolding own.fill_to
deliveries_none h t k =
    let none : min 0 h.ndeliveries ≡ 0 = omega arith in
    rw none (record { stand = all_to_zero _; los = refl; his = refl; totals = k })

module _ (h : Hour) (j : ℕ) (lo hi : List ℕ) (t : Totals) (s : DeliveriesTo h lo hi t j (min j h.ndeliveries)) (r : Bool)
    (e : r ≡ delivery_stands (counts_of h) j (get_or h.deliveries j no_delivery) lo hi) where
  delivery_here : delivery_stands_at h j ≡ r
  unfolding own.delivery_stands
  delivery_here = place_here h.ndeliveries j r _ _ _ e (λ l. rw (s.los, s.his, (at_entry h.ndeliveries j l).0))

  delivery_blank_lem : r ≡ true → h.ndeliveries ≤ j → get_or h.deliveries j no_delivery ≡ blank_delivery
  unfolding own.delivery_stands
  delivery_blank_lem is l = blank_delivery_lem _ (rw (le-ltb j h.ndeliveries l) at (sym e ∙ is))

  pub delivery_fails : r ≡ false → j < 32 → all_to (delivery_stands_at h) 32 ≡ false
  delivery_fails is l = all_to_fails (delivery_stands_at h) 32 j l (delivery_here ∙ is)

  pub deliveries_on : r ≡ true → (lo' hi' : List ℕ) (u : Totals) → lo' ≡ set_if (ltb j h.ndeliveries && r) lo j (delivery_spelling h.deliveries j).lo
      → hi' ≡ set_if (ltb j h.ndeliveries && r) hi j (delivery_spelling h.deliveries j).hi
      → u ≡ delivery_totalled t (get_or h.deliveries j no_delivery) → u.delivered ≤ t.delivered + above_one → DeliveriesTo h lo' hi' u (j + 1) (min (j + 1) h.ndeliveries)
  deliveries_on is lo' hi' u p q sum most =
      let n = h.ndeliveries in
      record {
        stand = all_to_on (delivery_stands_at h) j s.stand (delivery_here ∙ is);
        los = fill_on n j _ lo lo' r is s.los p;
        his = fill_on n j _ hi hi' r is s.his q;
        totals = totals_on n j (λ j t. Totalled h.sources h.nsources h.deliveries j t) t u (delivery_totalled t (get_or h.deliveries j no_delivery)) s.totals sum
            (λ l k. totalled_delivery h.sources h.nsources h.deliveries j t k h.deliveries (get_or h.deliveries j no_delivery) u (λ i l. refl) refl sum most)
            (λ l. rw (delivery_blank_lem is l) (same_totals t _ _ _ refl (omega arith) (or_false t.numbered)));
      }

-- of D entries, after all sources and deliveries
pub record DirectsTo (h : Hour) (based percents : List ℕ) (k m : ℕ) : Type 0 where
  pub stand : all_to (direct_stands_at h) k ≡ true
  pub codes : based ≡ based_to h.directs m
  pub sums : percents ≡ percents_to h.directs m

pub directs_none : (h : Hour) → DirectsTo h zeros zeros 0 (min 0 h.ndirects)
unfolding own.based_to own.percents_to
directs_none h =
    let none : min 0 h.ndirects ≡ 0 = omega arith in
    rw none (record { stand = all_to_zero _; codes = refl; sums = refl })

module _ (h : Hour) (k : ℕ) (high based percents : List ℕ) (highs : high ≡ highs_to h.sources h.nsources) (s : DirectsTo h based percents k (min k h.ndirects)) (r : Bool)
    (e : r ≡ direct_stands (counts_of h) k (get_or h.directs k no_direct) high based percents) where
  direct_here : direct_stands_at h k ≡ r
  unfolding own.direct_stands
  direct_here = place_here h.ndirects k r _ _ _ e (λ l. rw (highs, s.codes, s.sums, (at_entry h.ndirects k l).0))

  pub direct_fails : r ≡ false → k < 32 → all_to (direct_stands_at h) 32 ≡ false
  direct_fails is l = all_to_fails (direct_stands_at h) 32 k l (direct_here ∙ is)

  pub directs_on : r ≡ true → (based' percents' : List ℕ)
      → based' ≡ set_if (ltb k h.ndirects && r) based (get_or h.directs k no_direct).source (basis_code (get_or h.directs k no_direct).basis)
      → percents' ≡ set_if (ltb k h.ndirects && r) percents (get_or h.directs k no_direct).source (get_or percents (get_or h.directs k no_direct).source 0 + (get_or h.directs k no_direct).percent)
      → DirectsTo h based' percents' (k + 1) (min (k + 1) h.ndirects)
  unfolding own.based_to own.percents_to
  directs_on is based' percents' p q =
      record {
        stand = all_to_on (direct_stands_at h) k s.stand (direct_here ∙ is);
        codes = table_on h.ndirects k (based_to h.directs) based _ based' r is s.codes (λ e. rw e) p;
        sums = table_on h.ndirects k (percents_to h.directs) percents _ percents' r is s.sums (λ e. rw e) q;
      }
