-- Document 01, "The deck" and "Numbers a call may give back", 1 to 11: what reading a deck gives.
use Rattle.std.specs.Prelude.{Bool, true, false, not, ◌&&◌, List, [], ◌∷◌, ℕ, zero, suc, ◌+◌, leb, ltb, eqb, length}
use Rattle.std.proofs.Math.Option.{Option, none, some}
use Rattle.rules.specs.Words.{when◌then◌else◌, sum_to, all_to, any_to, is_none, find_to}
use Rattle.rules.specs.Refusals.{Outcome, accepted, refused, refuse, and_then}
use Rattle.rules.specs.Units.{generation, is_unit, levelled}
use Rattle.rules.specs.Sequences.{numbered}
use Rattle.rules.specs.Fields.{Field, got, malformed, Chars}
use Rattle.rules.specs.Lines.{Letter, H, U, P, F, T, D, E, Fields, fields_of, ranged, Line, line_at}
use Rattle.rules.specs.Record.{same_label, label_of, source_at, delivery_at, direct_at, started, with_source, with_delivery, with_direct, unit_of, purchase_of, fixed_of, delivery_of}
use Rattle.rules.specs.declared.Label.{Label}
use Rattle.rules.specs.declared.Plant.{Plant}
use Rattle.rules.specs.declared.Plant.TheVariants.{Unit, Purchase, Fixed}
use Rattle.rules.specs.declared.Basis.{Basis}
use Rattle.rules.specs.declared.Basis.TheVariants.{Low, Generation, Mwh}
use Rattle.rules.specs.declared.Source.{Source}
use Rattle.rules.specs.declared.Delivery.{Delivery}
use Rattle.rules.specs.declared.Hour.{Hour}
use Rattle.rules.specs.declared.Refusal.{Refusal}
use Rattle.rules.specs.declared.Refusal.TheVariants.{TooLong, Form, Range, Full, Used, Levels, Names, OtherBasis, Percents, Overdrawn, Unplaced}

-- the number of the line that comes next: H is line 1
abbrev pub line_number : Hour → ℕ
line_number h = h.nsources + h.ndeliveries + h.ndirects + 2

-- Source lines.

-- "label already used in its class" (5)
abbrev pub source_used : Hour → Label → Bool
source_used h x = any_to (λ i. same_label (source_at h i).label x) h.nsources

-- a source line, whose numbers are in range or not: 2 to 6 in their order
abbrev pub source_taken : Hour → Bool → Source → Outcome Hour
source_taken h in_range x =
    refuse (not (eqb (h.ndeliveries + h.ndirects) 0)) (Form (line_number h))
    (refuse (not in_range) (Range (line_number h))
    (refuse (leb 32 h.nsources) (Full (line_number h))
    (refuse (source_used h x.label) (Used (line_number h))
    (refuse (not (levelled x.plant)) (Levels (line_number h))
    (accepted (with_source h x))))))

-- T lines.

abbrev pub delivery_used : Hour → Label → Bool
delivery_used h x = any_to (λ i. same_label (delivery_at h i).label x) h.ndeliveries

-- 2 to 5 in their order
abbrev pub delivery_taken : Hour → Bool → Delivery → Outcome Hour
delivery_taken h in_range x =
    refuse (not (eqb h.ndirects 0)) (Form (line_number h))
    (refuse (not in_range) (Range (line_number h))
    (refuse (leb 32 h.ndeliveries) (Full (line_number h))
    (refuse (delivery_used h x.label) (Used (line_number h))
    (accepted (with_delivery h x)))))

-- D lines.

-- the unit and the delivery that a D line names
abbrev pub unit_named : Hour → Label → Option ℕ
unit_named h x = find_to (λ i. is_unit (source_at h i).plant && same_label (source_at h i).label x) h.nsources

abbrev pub delivery_named : Hour → Label → Option ℕ
delivery_named h x = find_to (λ i. same_label (delivery_at h i).label x) h.ndeliveries

-- "D names no unit, or no delivery" (7)
abbrev pub named : Option ℕ → Refusal → (ℕ → Outcome Hour) → Outcome Hour
named none r after = refused r
named (some i) r after = after i

abbrev pub same_basis : Basis → Basis → Bool
same_basis Low Low = true
same_basis Low Generation = false
same_basis Low (Mwh v) = false
same_basis Generation Low = false
same_basis Generation Generation = true
same_basis Generation (Mwh v) = false
same_basis (Mwh v) Low = false
same_basis (Mwh v) Generation = false
same_basis (Mwh v) (Mwh w) = eqb v w

-- "basis not that of the unit's earlier D line" (8), asked of every earlier one
abbrev pub basis_kept : Hour → ℕ → Basis → Bool
basis_kept h i x = all_to (λ j. when eqb (direct_at h j).source i then same_basis (direct_at h j).basis x else true) h.ndirects

-- "or a number not below h" (8)
abbrev pub high : Plant → ℕ
high (Unit u) = u.h
high (Purchase g rate) = g
high (Fixed g) = g

abbrev pub below_high : Basis → Plant → Bool
below_high Low p = true
below_high Generation p = true
below_high (Mwh v) p = ltb v (high p)

-- the percents of the unit's earlier D lines
abbrev pub percents_of : Hour → ℕ → ℕ
percents_of h i = sum_to (λ j. when eqb (direct_at h j).source i then (direct_at h j).percent else 0) h.ndirects

-- 3, 4 and 7 to 9 in their order
abbrev pub direct_taken : Hour → Bool → Basis → ℕ → Label → Label → Outcome Hour
direct_taken h in_range x percent unit delivery =
    refuse (not in_range) (Range (line_number h))
    (refuse (leb 32 h.ndirects) (Full (line_number h))
    (named (unit_named h unit) (Names (line_number h)) λ i.
    named (delivery_named h delivery) (Names (line_number h)) λ j.
    refuse (not (basis_kept h i x && below_high x (source_at h i).plant)) (OtherBasis (line_number h))
    (refuse (ltb 100 (percents_of h i + percent)) (Percents (line_number h))
    (accepted (with_direct h (record { basis = x; percent = percent; source = i; delivery = j }))))))

-- Any line.

-- a line after the hour so far: "within it the least of 2..9"
abbrev pub taken_as : Hour → (l : Letter) → Fields Chars (fields_of l) → Outcome Hour
taken_as h H v = refused (Form (line_number h))
taken_as h U v = source_taken h (ranged (fields_of U) v) (unit_of v)
taken_as h P v = source_taken h (ranged (fields_of P) v) (purchase_of v)
taken_as h F v = source_taken h (ranged (fields_of F) v) (fixed_of v)
taken_as h T v = delivery_taken h (ranged (fields_of T) v) (delivery_of v)
taken_as h D v = direct_taken h (ranged (fields_of D) v) v.0 v.1.0 (label_of v.1.1.0) (label_of v.1.1.1.0)
taken_as h E v = refused (Form (line_number h))

unfoldable pub taken : Hour → Line → Outcome Hour
taken h l = taken_as h l.letter l.fields

-- lines in turn
unfoldable pub feed : Hour → List Line → Outcome Hour
feed h [] = accepted h
feed h (l ∷ ls) = and_then (taken h l) λ after. feed after ls

-- "Order: one H": the first line
abbrev pub headed_as : (l : Letter) → Fields Chars (fields_of l) → Outcome Hour
headed_as H v = refuse (not (ranged (fields_of H) v)) (Range 1) (accepted (started v.0))
headed_as U v = refused (Form 1)
headed_as P v = refused (Form 1)
headed_as F v = refused (Form 1)
headed_as T v = refused (Form 1)
headed_as D v = refused (Form 1)
headed_as E v = refused (Form 1)

unfoldable pub headed : Line → Outcome Hour
headed l = headed_as l.letter l.fields

-- After E: 10 and 11.

abbrev pub generated : Hour → ℕ
generated h = sum_to (λ i. generation (source_at h i).plant) h.nsources

abbrev pub delivered : Hour → ℕ
delivered h = sum_to (λ i. (delivery_at h i).mwh) h.ndeliveries

-- the first delivery that gets no internal number
abbrev pub unplaced : Hour → Option ℕ
unplaced h = find_to (λ i. is_none (numbered h.deliveries h.ndeliveries (delivery_at h i))) h.ndeliveries

-- "sequence 0 and no delivery to place it by": "first such T line" (11)
abbrev pub all_placed : Hour → Option ℕ → Outcome Hour
all_placed h none = accepted h
all_placed h (some i) = refused (Unplaced (h.nsources + 2 + i))

-- "losses + deliveries above generation" (10), then 11
unfoldable pub finished : Hour → Outcome Hour
finished h =
    refuse (ltb (generated h) (h.losses + delivered h)) Overdrawn
    (all_placed h (unplaced h))

-- The whole deck.

abbrev pub is_end : Letter → Bool
is_end H = false
is_end U = false
is_end P = false
is_end F = false
is_end T = false
is_end D = false
is_end E = true

-- "line not of its form" (2), or the line and what comes after it
abbrev pub on_line : Field Line → Refusal → (Line → ℕ → Outcome Hour) → Outcome Hour
on_line (got l next) r after = after l next
on_line malformed r after = refused r

-- one line after the hour so far; "then E, and nothing after E"
abbrev pub turn : List ℕ → Hour → (Hour → ℕ → Outcome Hour) → Line → ℕ → Outcome Hour
turn s h go l next =
    when is_end l.letter then (when eqb next (length s) then finished h else refused (Form (line_number h + 1))) else
    and_then (taken h l) λ after. go after next

-- "The reader goes through the lent deck line by line and knows its place": f lines at most, from the place at
unfoldable pub lines_from : ℕ → List ℕ → Hour → ℕ → Outcome Hour
lines_from zero s h at = refused (Form (line_number h))
lines_from (suc f) s h at = on_line (line_at s at) (Form (line_number h)) (turn s h (lines_from f s))

-- "Reading: 1, then the first faulty line, within it the least of 2..9, then 10, 11."
-- A line has a byte at least, so that so many turns suffice (roundtrip/Loop).
unfoldable pub reading : List ℕ → Outcome Hour
reading s =
    refuse (ltb 8192 (length s)) TooLong
    (on_line (line_at s 0) (Form 1) λ l next.
    and_then (headed l) λ h.
    lines_from (length s) s h next)
