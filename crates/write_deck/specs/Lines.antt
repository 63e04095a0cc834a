-- Each entry's line as what is written one after another.
use Rattle.std.specs.Prelude.{◌≡◌, refl, List, [], ◌∷◌, ◌++◌, ℕ}
use Rattle.std.proofs.Common.{ap, sym, arith}
use Rattle.rules.specs.Fields.{Chars, basis_text}
use Rattle.rules.specs.Lines as lines
use Rattle.rules.specs.Lines.{H, D, Line, line, line_text}
use Rattle.rules.specs.Record.{chars, plant_line, delivery_line, end_line}
use Rattle.rules.specs.declared.Unit as declared
use Rattle.rules.specs.declared.Plant.{Plant}
use Rattle.rules.specs.declared.Plant.TheVariants.{Unit as U, Purchase as P, Fixed as F}
use Rattle.rules.specs.declared.Delivery.{Delivery}
use Rattle.rules.specs.declared.Basis.{Basis}
use Rattle.roundtrip.specs.Lines.{line_length}
use Rattle.write_fields.specs.Inked as inked
use Rattle.write_fields.specs.Inked.{Text, Front, front_byte, front_then, up_to, front_up_to}
use Rattle.write_fields.specs.Texts.{spaced_text, spaced_at, numbers_text, quoted_text, front_spaced, front_quoted}

-- a space and a label
abbrev pub name_text : Chars → Text
name_text cs rest = 32 ∷ quoted_text cs rest

-- a letter, numbers, a label and LF
abbrev pub entry_text : ℕ → List ℕ → Chars → Text
entry_text letter vs cs rest = letter ∷ numbers_text vs (name_text cs (10 ∷ rest))

abbrev pub head_line_of : ℕ → Line
head_line_of losses = line H (losses, tt)

-- a D line, whose labels are handed over
abbrev pub direct_line_of : Basis → ℕ → Chars → Chars → Line
direct_line_of x percent unit delivery = line D (x, (percent, (unit, (delivery, tt))))

abbrev pub unit_fields : declared.Unit → List ℕ
unit_fields u = u.g ∷ u.h ∷ u.n ∷ u.o ∷ u.e ∷ u.curve.k ∷ u.curve.a ∷ u.curve.b ∷ u.curve.c ∷ u.curve.r ∷ []

abbrev pub delivery_fields : Delivery → List ℕ
delivery_fields x = x.sequence.0 ∷ x.kind ∷ x.block ∷ x.mwh ∷ []

-- The rest stands after each.

pub front_name : (cs : Chars) → Front (name_text cs)
front_name cs = front_then (front_byte 32) (front_quoted cs)

pub front_numbers : (vs : List ℕ) → Front (numbers_text vs)
front_numbers vs = front_up_to (spaced_at vs) (λ i. front_spaced _) _

pub front_line : (l : Line) → Front (line_text l)
front_line l = record { longer = λ rest. omega (arith, line_length l rest, line_length l []) }

pub front_lines : (f : ℕ → Line) (n : ℕ) → Front (up_to (λ i. line_text (f i)) n)
front_lines f n = front_up_to (λ i. line_text (f i)) (λ i. front_line (f i)) n

-- The lines.

pub head_text_lem : (losses : ℕ) (rest : List ℕ) → 72 ∷ spaced_text losses (10 ∷ rest) ≡ line_text (head_line_of losses) rest
unfolding lines.line_text lines.written
head_text_lem losses rest = refl

pub end_text : (rest : List ℕ) → 69 ∷ 10 ∷ rest ≡ line_text end_line rest
unfolding lines.line_text lines.written
end_text rest = refl

-- the line of a plant that is known
plant_same : {p q : Plant} (cs : Chars) → p ≡ q → (rest : List ℕ) → line_text (plant_line q cs) rest ≡ line_text (plant_line p cs) rest
plant_same cs e rest = ap (λ (p : Plant). line_text (plant_line p cs) rest) (sym e)

pub unit_text : {p : Plant} (u : declared.Unit) (cs : Chars) → p ≡ U u → (rest : List ℕ) → entry_text 85 (unit_fields u) cs rest ≡ line_text (plant_line p cs) rest
unfolding lines.line_text lines.written inked.up_to
unit_text u cs e rest = plant_same cs e rest

pub purchase_text : {p : Plant} (g rate : ℕ) (cs : Chars) → p ≡ P g rate → (rest : List ℕ) → entry_text 80 (g ∷ rate ∷ []) cs rest ≡ line_text (plant_line p cs) rest
unfolding lines.line_text lines.written inked.up_to
purchase_text g rate cs e rest = plant_same cs e rest

pub fixed_text : {p : Plant} (g : ℕ) (cs : Chars) → p ≡ F g → (rest : List ℕ) → entry_text 70 (g ∷ []) cs rest ≡ line_text (plant_line p cs) rest
unfolding lines.line_text lines.written inked.up_to
fixed_text g cs e rest = plant_same cs e rest

pub delivery_text_lem : (x : Delivery) (rest : List ℕ) → entry_text 84 (delivery_fields x) (chars x.label) rest ≡ line_text (delivery_line x) rest
unfolding lines.line_text lines.written inked.up_to
delivery_text_lem x rest = refl

pub direct_text_lem : (x : Basis) (percent : ℕ) (unit delivery : Chars) (rest : List ℕ)
    → 68 ∷ 32 ∷ basis_text x ++ spaced_text percent (name_text unit (name_text delivery (10 ∷ rest))) ≡ line_text (direct_line_of x percent unit delivery) rest
unfolding lines.line_text lines.written
direct_text_lem x percent unit delivery rest = refl
