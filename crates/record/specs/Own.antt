-- Document 01, "hour record that no deck gives" (15), as tests of the record's own places in turn: below the counts each entry let through as a deck's line would be, blanks from there on, 10 and 11.
use Rattle.std.specs.Prelude.{is_ok, Bool, true, not, ◌&&◌, List, ◌≡◌, ℕ, zero, suc, ◌+◌, leb, ltb, eqb, length, get_or, set, replicate}
use Rattle.rules.specs.Words.{when◌then◌else◌, all_to}
use Rattle.rules.specs.Answers.{verdict_of}
use Rattle.rules.specs.Group.{no_direct}
use Rattle.rules.specs.Sequences.{no_delivery}
use Rattle.rules.specs.Record.{no_source}
use Rattle.rules.specs.Reading.{finished}
use Rattle.rules.specs.declared.Plant.{Plant}
use Rattle.rules.specs.declared.Source.{Source}
use Rattle.rules.specs.declared.Delivery.{Delivery}
use Rattle.rules.specs.declared.Direct.{Direct}
use Rattle.rules.specs.declared.Hour.{Hour}
use Rattle.record.specs.Shape.{own_label, source_blank, delivery_blank, direct_blank}
use Rattle.ranges.specs.Inside.{plant_inside, delivery_inside, direct_inside, losses_inside}
use Rattle.line_rules.specs.Spellings.{spelling_of}
use Rattle.line_rules.specs.Tried.{counts_of, source_tried, delivery_tried, Tables, unit_high, basis_code, below_most, code_leaves}
use Rattle.line_rules.specs.declared.Spelling.{Spelling}
use Rattle.line_rules.specs.declared.Counts.{Counts}

-- The tables of the first entries.

-- a list with v at i, if so
abbrev pub set_if : Bool → List ℕ → ℕ → ℕ → List ℕ
set_if so xs i v = when so then set xs i v else xs

-- f 0, .., f (n - 1) set in a list
unfoldable pub fill_to : {A : Type 0} → (ℕ → A) → List A → ℕ → List A
fill_to f xs zero = xs
fill_to f xs (suc n) = set (fill_to f xs n) n (f n)

abbrev pub source_spelling : List Source → ℕ → Spelling
source_spelling sources i = spelling_of (get_or sources i no_source).label

abbrev pub delivery_spelling : List Delivery → ℕ → Spelling
delivery_spelling deliveries i = spelling_of (get_or deliveries i no_delivery).label

abbrev pub zeros : List ℕ
zeros = replicate 32 0

abbrev pub slos_to : List Source → ℕ → List ℕ
slos_to sources i = fill_to (λ i. (source_spelling sources i).lo) zeros i

abbrev pub shis_to : List Source → ℕ → List ℕ
shis_to sources i = fill_to (λ i. (source_spelling sources i).hi) zeros i

abbrev pub highs_to : List Source → ℕ → List ℕ
highs_to sources i = fill_to (λ i. unit_high (get_or sources i no_source).plant) zeros i

abbrev pub tlos_to : List Delivery → ℕ → List ℕ
tlos_to deliveries j = fill_to (λ j. (delivery_spelling deliveries j).lo) zeros j

abbrev pub this_to : List Delivery → ℕ → List ℕ
this_to deliveries j = fill_to (λ j. (delivery_spelling deliveries j).hi) zeros j

unfoldable pub based_to : List Direct → ℕ → List ℕ
based_to directs zero = zeros
based_to directs (suc k) = set (based_to directs k) (get_or directs k no_direct).source (basis_code (get_or directs k no_direct).basis)

unfoldable pub percents_to : List Direct → ℕ → List ℕ
percents_to directs zero = zeros
percents_to directs (suc k) =
    set (percents_to directs k) (get_or directs k no_direct).source (get_or (percents_to directs k) (get_or directs k no_direct).source 0 + (get_or directs k no_direct).percent)

abbrev pub tables_to : Hour → ℕ → ℕ → ℕ → Tables
tables_to h i j k =
    record {
      slo = slos_to h.sources i;
      shi = shis_to h.sources i;
      tlo = tlos_to h.deliveries j;
      thi = this_to h.deliveries j;
      high = highs_to h.sources i;
      based = based_to h.directs k;
      percents = percents_to h.directs k;
    }

-- The entries in turn.

abbrev pub counts : ℕ → ℕ → ℕ → Counts
counts i j k = record { sources = i; deliveries = j; directs = k }

-- a source after i others: what the rules say, and its label
abbrev pub source_ruled : ℕ → Plant → Spelling → List ℕ → List ℕ → Bool
source_ruled i p spelling lo hi = is_ok (verdict_of (source_tried (counts i 0 0) (plant_inside p) p spelling lo hi))

unfoldable pub source_own : ℕ → Source → List ℕ → List ℕ → Bool
source_own i x lo hi = own_label x.label && source_ruled i x.plant (spelling_of x.label) lo hi

abbrev pub source_own_at : List Source → ℕ → Bool
source_own_at sources i = source_own i (get_or sources i no_source) (slos_to sources i) (shis_to sources i)

-- a delivery after n sources and j others
abbrev pub delivery_ruled : ℕ → ℕ → Delivery → Spelling → List ℕ → List ℕ → Bool
delivery_ruled n j x spelling lo hi = is_ok (verdict_of (delivery_tried (counts n j 0) (delivery_inside x.sequence.0 x.kind x.block x.mwh) spelling lo hi))

unfoldable pub delivery_own : ℕ → ℕ → Delivery → List ℕ → List ℕ → Bool
delivery_own n j x lo hi = own_label x.label && delivery_ruled n j x (spelling_of x.label) lo hi

abbrev pub delivery_own_at : ℕ → List Delivery → ℕ → Bool
delivery_own_at n deliveries j = delivery_own n j (get_or deliveries j no_delivery) (tlos_to deliveries j) (this_to deliveries j)

-- 3, 4 and 7 to 9 of a D entry: what it names, it names by its place
abbrev pub direct_ruled : Counts → Direct → List ℕ → List ℕ → List ℕ → Bool
direct_ruled n x high based percents =
    direct_inside x.basis x.percent && (not (leb 32 n.directs) && (not (eqb (get_or high x.source 0) 0)
    && ((code_leaves (get_or based x.source 0) x.basis && below_most x.basis (get_or high x.source 0)) && not (ltb 100 (get_or percents x.source 0 + x.percent)))))

unfoldable pub direct_own : Counts → Direct → List ℕ → List ℕ → List ℕ → Bool
direct_own n x high based percents = ltb x.source n.sources && (ltb x.delivery n.deliveries && direct_ruled n x high based percents)

abbrev pub direct_own_at : Hour → ℕ → Bool
direct_own_at h k = direct_own (counts h.nsources h.ndeliveries k) (get_or h.directs k no_direct) (highs_to h.sources h.nsources) (based_to h.directs k) (percents_to h.directs k)

-- Places: below the count its entry is let through, from there on it is blank.

unfoldable pub source_stands : Counts → ℕ → Source → List ℕ → List ℕ → Bool
source_stands n i x lo hi = when ltb i n.sources then source_own i x lo hi else source_blank x

unfoldable pub delivery_stands : Counts → ℕ → Delivery → List ℕ → List ℕ → Bool
delivery_stands n j x lo hi = when ltb j n.deliveries then delivery_own n.sources j x lo hi else delivery_blank x

unfoldable pub direct_stands : Counts → ℕ → Direct → List ℕ → List ℕ → List ℕ → Bool
direct_stands n k x high based percents = when ltb k n.directs then direct_own (counts n.sources n.deliveries k) x high based percents else direct_blank x

abbrev pub stands : (ℕ → Bool) → (ℕ → Bool) → ℕ → ℕ → Bool
stands own blank n i = when ltb i n then own i else blank i

abbrev pub source_stands_at : Hour → ℕ → Bool
source_stands_at h = stands (source_own_at h.sources) (λ i. source_blank (get_or h.sources i no_source)) h.nsources

abbrev pub delivery_stands_at : Hour → ℕ → Bool
delivery_stands_at h = stands (delivery_own_at h.nsources h.deliveries) (λ j. delivery_blank (get_or h.deliveries j no_delivery)) h.ndeliveries

abbrev pub direct_stands_at : Hour → ℕ → Bool
direct_stands_at h = stands (direct_own_at h) (λ k. direct_blank (get_or h.directs k no_direct)) h.ndirects

-- All together.

unfoldable pub few_entries : Counts → Bool
few_entries n = leb n.sources 32 && (leb n.deliveries 32 && leb n.directs 32)

-- 32 places that all stand
pub record Places {A : Type 0} (xs : List A) (stand : ℕ → Bool) : Type 0 where
  pub size : length xs ≡ 32
  pub all : all_to stand 32 ≡ true

pub record Passes (h : Hour) : Type 0 where
  pub few : few_entries (counts_of h) ≡ true
  pub losses : losses_inside h.losses ≡ true
  pub sources : Places h.sources (source_stands_at h)
  pub deliveries : Places h.deliveries (delivery_stands_at h)
  pub directs : Places h.directs (direct_stands_at h)
  pub done : is_ok (verdict_of (finished h)) ≡ true
