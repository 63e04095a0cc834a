-- What the line at hand comes to, tried on the counts of the hour so far and on the tables kept beside it.
use Rattle.std.specs.Prelude.{◌≡◌, true, false, List, ℕ, ◌+◌, eqb, Result, Ok, Err, Option, Some, None, Bool}
use Rattle.rules.specs.Words.{when◌then◌else◌}
use Rattle.rules.specs.Answers.{verdict_of}
use Rattle.rules.specs.Fields.{chars_at}
use Rattle.rules.specs.Lines.{U, P, F, places_at}
use Rattle.rules.specs.Record.{label_of}
use Rattle.rules.specs.declared.Label.{Label}
use Rattle.rules.specs.declared.Unit as unit
use Rattle.rules.specs.declared.Plant.{Plant}
use Rattle.rules.specs.declared.Plant.TheVariants.{Unit as IsUnit, Purchase as IsPurchase, Fixed as IsFixed}
use Rattle.rules.specs.declared.Source.{Source}
use Rattle.rules.specs.declared.Delivery.{Delivery}
use Rattle.rules.specs.declared.Direct.{Direct}
use Rattle.rules.specs.declared.Refusal.{Refusal}
use Rattle.rules.specs.declared.Refusal.TheVariants.{Form}
use Rattle.read_fields.specs.declared.Place.{Place}
use Rattle.read_lines.specs.Answers.{unit_line, purchase_line, fixed_line}
use Rattle.read_lines.specs.declared.UnitLine.{UnitLine}
use Rattle.read_lines.specs.declared.PurchaseLine.{PurchaseLine}
use Rattle.read_lines.specs.declared.FixedLine.{FixedLine}
use Rattle.read_lines.specs.declared.DeliveryLine.{DeliveryLine}
use Rattle.read_lines.specs.declared.DirectLine.{DirectLine}
use Rattle.ranges.specs.Inside.{plant_inside, judged, delivery_inside, direct_inside}
use Rattle.line_rules.specs.Spellings.{spelling_of}
use Rattle.line_rules.specs.Tried.{entry_of, next_line, source_tried, delivery_tried, Tables, direct_tried}
use Rattle.line_rules.specs.Totalled.{source_totalled, delivery_totalled}
use Rattle.line_rules.specs.declared.Counts.{Counts}
use Rattle.line_rules.specs.declared.Spelling.{Spelling}
use Rattle.line_rules.specs.declared.Totals.{Totals}
use Rattle.deck.specs.Answers.{place_at}
use Rattle.deck.specs.declared.SourceLine.{SourceLine}
use Rattle.deck.specs.declared.Step.{Step}
use Rattle.deck.specs.declared.DirectStep.{DirectStep}

-- What comes of a line where the rules have a verdict on it.
abbrev pub taken_if : {A : Type 0} → Result (Unit {0}) Refusal → A → Result A Refusal
taken_if (Ok u) x = Ok x
taken_if (Err r) x = Err r

-- Source lines.

-- a source whose numbers are in their ranges or not, and whose label stands at a place
unfoldable pub source_step : List ℕ → Counts → Totals → List ℕ → List ℕ → SourceLine → Result (Step Source) Refusal
source_step s n u lo hi l =
    let label = label_of (chars_at s (place_at l.label)) in
    taken_if (verdict_of (source_tried n l.ranged l.plant (spelling_of label) lo hi))
    (record { entry = record { plant = l.plant; label = label }; place = l.label; totals = source_totalled u l.plant; next = l.next })

-- what its line tells of it: of a unit, whether one is made of its numbers
abbrev pub judged_source : Option unit.Unit → Place → ℕ → SourceLine
judged_source (Some u) p next = record { ranged = true; plant = IsUnit u; label = p; next = next }
judged_source None p next = record { ranged = false; plant = IsFixed 0; label = p; next = next }

abbrev pub plant_source : Plant → Place → ℕ → SourceLine
plant_source plant p next = record { ranged = plant_inside plant; plant = plant; label = p; next = next }

abbrev pub unit_source : Option UnitLine → Option SourceLine
unit_source (Some l) = Some (judged_source (judged l.numbers) l.label l.next)
unit_source None = None

abbrev pub purchase_source : Option PurchaseLine → Option SourceLine
purchase_source (Some l) = Some (plant_source (IsPurchase l.g l.rate) l.label l.next)
purchase_source None = None

abbrev pub fixed_source : Option FixedLine → Option SourceLine
fixed_source (Some l) = Some (plant_source (IsFixed l.g) l.label l.next)
fixed_source None = None

-- by its letter, U, P or F; any other is no source line
abbrev pub plant_from : List ℕ → ℕ → ℕ → Option SourceLine
plant_from s at letter =
    when eqb letter 85 then unit_source (unit_line (places_at s at U)) else
    when eqb letter 80 then purchase_source (purchase_line (places_at s at P)) else
    when eqb letter 70 then fixed_source (fixed_line (places_at s at F)) else
    None

abbrev pub line_step : List ℕ → Counts → Totals → List ℕ → List ℕ → Option SourceLine → Result (Step Source) Refusal
line_step s n u lo hi (Some l) = source_step s n u lo hi l
line_step s n u lo hi None = Err (Form (next_line n))

abbrev pub source_from : List ℕ → ℕ → ℕ → Counts → Totals → List ℕ → List ℕ → Result (Step Source) Refusal
source_from s at letter n u lo hi = line_step s n u lo hi (plant_from s at letter)

-- T lines.

unfoldable pub delivery_took : List ℕ → Counts → Totals → List ℕ → List ℕ → DeliveryLine → Result (Step Delivery) Refusal
delivery_took s n u lo hi l =
    let x : Delivery = record { sequence = record { 0 = l.sequence }; kind = l.kind; block = l.block; mwh = l.mwh; label = label_of (chars_at s (place_at l.label)) } in
    taken_if (verdict_of (delivery_tried n (delivery_inside l.sequence l.kind l.block l.mwh) (spelling_of x.label) lo hi))
    (record { entry = x; place = l.label; totals = delivery_totalled u x; next = l.next })

abbrev pub delivery_step : List ℕ → Counts → Totals → List ℕ → List ℕ → Option DeliveryLine → Result (Step Delivery) Refusal
delivery_step s n u lo hi (Some l) = delivery_took s n u lo hi l
delivery_step s n u lo hi None = Err (Form (next_line n))

-- D lines.

-- its entry, or why there is none
abbrev pub direct_made : Result Direct Refusal → ℕ → Result DirectStep Refusal
direct_made (Ok y) next = Ok (record { entry = y; next = next })
direct_made (Err r) next = Err r

unfoldable pub direct_took : List ℕ → Counts → Tables → DirectLine → Result DirectStep Refusal
direct_took s n t l =
    direct_made
    (entry_of
    (direct_tried n (direct_inside l.basis l.percent)
    (record { basis = l.basis; percent = l.percent; unit = spelling_of (label_of (chars_at s (place_at l.unit))); delivery = spelling_of (label_of (chars_at s (place_at l.delivery))) }) t))
    l.next

abbrev pub direct_step : List ℕ → Counts → Tables → Option DirectLine → Result DirectStep Refusal
direct_step s n t (Some l) = direct_took s n t l
direct_step s n t None = Err (Form (next_line n))

-- E, from the place after its letter: its LF is the last of so many bytes, and then 10 and 11 have a verdict on the whole.
abbrev pub end_verdict : ℕ → ℕ → Result (Unit {0}) Refusal → Option ℕ → Result (Unit {0}) Refusal
end_verdict size line whole (Some next) = when eqb next size then whole else Err (Form (line + 1))
end_verdict size line whole None = Err (Form line)

-- A step, made of what its line was read to and of the rules tried on it.

pub source_made : (s : List ℕ) (n : Counts) (u : Totals) (lo hi : List ℕ) {o : Option SourceLine} {l : SourceLine} {label : Label} {spelling : Spelling} {verdict : Result (Unit {0}) Refusal} {totals : Totals}
    → o ≡ Some l → label ≡ label_of (chars_at s (place_at l.label)) → spelling ≡ spelling_of label → verdict ≡ verdict_of (source_tried n l.ranged l.plant spelling lo hi) → totals ≡ source_totalled u l.plant
    → taken_if verdict (record { entry = record { plant = l.plant; label = label }; place = l.label; totals = totals; next = l.next }) ≡ line_step s n u lo hi o
unfolding source_step
source_made s n u lo hi line label spelling verdict totals = rw (line, verdict, totals, spelling, label)

pub delivery_made : (s : List ℕ) (n : Counts) (u : Totals) (lo hi : List ℕ) {o : Option DeliveryLine} {l : DeliveryLine} {label : Label} {spelling : Spelling} {in_range : Bool} {verdict : Result (Unit {0}) Refusal} {totals : Totals}
    → o ≡ Some l → label ≡ label_of (chars_at s (place_at l.label)) → spelling ≡ spelling_of label → in_range ≡ delivery_inside l.sequence l.kind l.block l.mwh
    → verdict ≡ verdict_of (delivery_tried n in_range spelling lo hi)
    → totals ≡ delivery_totalled u (record { sequence = record { 0 = l.sequence }; kind = l.kind; block = l.block; mwh = l.mwh; label = label })
    → taken_if verdict (record { entry = record { sequence = record { 0 = l.sequence }; kind = l.kind; block = l.block; mwh = l.mwh; label = label }; place = l.label; totals = totals; next = l.next })
    ≡ delivery_step s n u lo hi o
unfolding delivery_took
delivery_made s n u lo hi line label spelling in_range verdict totals = rw (line, verdict, totals, in_range, spelling, label)

pub direct_made_lem : (s : List ℕ) (n : Counts) (t : Tables) {o : Option DirectLine} {l : DirectLine} {in_range : Bool} {label name : Label} {unit delivery : Spelling} {entry : Result Direct Refusal}
    → o ≡ Some l → label ≡ label_of (chars_at s (place_at l.unit)) → unit ≡ spelling_of label → name ≡ label_of (chars_at s (place_at l.delivery)) → delivery ≡ spelling_of name
    → in_range ≡ direct_inside l.basis l.percent → entry ≡ entry_of (direct_tried n in_range (record { basis = l.basis; percent = l.percent; unit = unit; delivery = delivery }) t)
    → direct_made entry l.next ≡ direct_step s n t o
unfolding direct_took
direct_made_lem s n t line label unit name delivery in_range entry = rw (line, entry, in_range, unit, delivery, label, name)
