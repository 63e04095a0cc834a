-- Document 01, "Numbers a call may give back", 2 to 9, tried on the counts of a growing hour and on the tables kept beside it.
use Rattle.std.specs.Prelude.{Bool, true, not, ◌&&◌, ◌||◌, List, ℕ, ◌+◌, ◌≤◌, leb, ltb, eqb, get_or, is_some, Option, Some, None, Result, Ok, Err}
use Rattle.rules.specs.Words.{when◌then◌else◌, sum_to}
use Rattle.rules.specs.Refusals.{Outcome, accepted, refused, refuse, and_then}
use Rattle.rules.specs.Units.{generation, levelled}
use Rattle.rules.specs.Sequences.{no_delivery}
use Rattle.rules.specs.Record.{no_source}
use Rattle.rules.specs.declared.Plant.{Plant}
use Rattle.rules.specs.declared.Plant.TheVariants.{Unit as U, Purchase as P, Fixed as F}
use Rattle.rules.specs.declared.Basis.{Basis}
use Rattle.rules.specs.declared.Basis.TheVariants.{Low, Generation, Mwh}
use Rattle.rules.specs.declared.Source.{Source}
use Rattle.rules.specs.declared.Delivery.{Delivery}
use Rattle.rules.specs.declared.Direct.{Direct}
use Rattle.rules.specs.declared.Hour.{Hour}
use Rattle.rules.specs.declared.Refusal.{Refusal}
use Rattle.rules.specs.declared.Refusal.TheVariants.{Form, Range, Full, Used, Levels, Names, OtherBasis, Percents}
use Rattle.line_rules.specs.Spellings.{spelling_found}
use Rattle.line_rules.specs.declared.Spelling.{Spelling}
use Rattle.line_rules.specs.declared.Counts.{Counts}
use Rattle.line_rules.specs.declared.DirectLine.{DirectLine}

-- What the code answers to a D line.
abbrev pub entry_of : Outcome Direct → Result Direct Refusal
entry_of (accepted x) = Ok x
entry_of (refused r) = Err r

-- The counts of the hour so far.

abbrev pub counts_of : Hour → Counts
counts_of h = record { sources = h.nsources; deliveries = h.ndeliveries; directs = h.ndirects }

-- no class has more than 32
pub record Few (n : Counts) : Type 0 where
  pub sources : n.sources ≤ 32
  pub deliveries : n.deliveries ≤ 32
  pub directs : n.directs ≤ 32

-- the number of the line that comes next
abbrev pub next_line : Counts → ℕ
next_line n = n.sources + n.deliveries + n.directs + 2

-- Source and T lines.

-- 3 to 5, of a line whose class has n entries
unfoldable pub label_tried : ℕ → Bool → ℕ → Spelling → List ℕ → List ℕ → Outcome (Unit {0})
label_tried line in_range n spelling lo hi =
    refuse (not in_range) (Range line)
    (refuse (leb 32 n) (Full line)
    (refuse (is_some (spelling_found lo hi n spelling)) (Used line)
    (accepted tt)))

unfoldable pub source_tried : Counts → Bool → Plant → Spelling → List ℕ → List ℕ → Outcome (Unit {0})
source_tried n in_range plant spelling lo hi =
    refuse (not (eqb (n.deliveries + n.directs) 0)) (Form (next_line n))
    (and_then (label_tried (next_line n) in_range n.sources spelling lo hi) λ u.
    refuse (not (levelled plant)) (Levels (next_line n))
    (accepted tt))

unfoldable pub delivery_tried : Counts → Bool → Spelling → List ℕ → List ℕ → Outcome (Unit {0})
delivery_tried n in_range spelling lo hi =
    refuse (not (eqb n.directs 0)) (Form (next_line n))
    (label_tried (next_line n) in_range n.deliveries spelling lo hi)

-- D lines.

-- the spellings of the sources and of the deliveries, and for each source its high (0 for one that is no unit), the code of its basis and its percents so far
pub record Tables : Type 0 where
  pub slo : List ℕ
  pub shi : List ℕ
  pub tlo : List ℕ
  pub thi : List ℕ
  pub high : List ℕ
  pub based : List ℕ
  pub percents : List ℕ

abbrev pub unit_high : Plant → ℕ
unit_high (U u) = u.h
unit_high (P g rate) = 0
unit_high (F g) = 0

-- 0 is left for a unit without a D line
abbrev pub basis_code : Basis → ℕ
basis_code Low = 1
basis_code Generation = 2
basis_code (Mwh v) = v + 3

abbrev pub below_most : Basis → ℕ → Bool
below_most Low most = true
below_most Generation most = true
below_most (Mwh v) most = ltb v most

-- whether an earlier code, or none, leaves a basis
abbrev pub code_leaves : ℕ → Basis → Bool
code_leaves code x = eqb code 0 || eqb code (basis_code x)

-- 7
abbrev pub on_spot : Option ℕ → (ℕ → Option (ℕ × ℕ)) → Option (ℕ × ℕ)
on_spot None after = None
on_spot (Some i) after = after i

unfoldable pub pair_found : Counts → DirectLine → List ℕ → List ℕ → List ℕ → List ℕ → List ℕ → Option (ℕ × ℕ)
pair_found n x slo shi tlo thi high =
    on_spot (spelling_found slo shi n.sources x.unit) λ i.
    when eqb (get_or high i 0) 0 then None else
    on_spot (spelling_found tlo thi n.deliveries x.delivery) λ j.
    Some (i, j)

abbrev pub on_pair : {A : Type 0} → Option (ℕ × ℕ) → Refusal → (ℕ → ℕ → Outcome A) → Outcome A
on_pair None r after = refused r
on_pair (Some (i, j)) r after = after i j

unfoldable pub direct_tried : Counts → Bool → DirectLine → Tables → Outcome Direct
direct_tried n in_range x t =
    refuse (not in_range) (Range (next_line n))
    (refuse (leb 32 n.directs) (Full (next_line n))
    (on_pair (pair_found n x t.slo t.shi t.tlo t.thi t.high) (Names (next_line n)) λ i j.
    refuse (not (code_leaves (get_or t.based i 0) x.basis && below_most x.basis (get_or t.high i 0))) (OtherBasis (next_line n))
    (refuse (ltb 100 (get_or t.percents i 0 + x.percent)) (Percents (next_line n))
    (accepted (record { basis = x.basis; percent = x.percent; source = i; delivery = j })))))

-- After E.

-- above every number of 32 bits, and above the sum of 32 of them
abbrev pub above_one : ℕ
above_one = 4294967296

abbrev pub above_all : ℕ
above_all = 137438953472

-- what the first n sources generate, and what the first n deliveries take
abbrev pub generated_to : List Source → ℕ → ℕ
generated_to sources n = sum_to (λ i. generation (get_or sources i no_source).plant) n

abbrev pub delivered_to : List Delivery → ℕ → ℕ
delivered_to deliveries n = sum_to (λ i. (get_or deliveries i no_delivery).mwh) n
