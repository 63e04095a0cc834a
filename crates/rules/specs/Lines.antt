-- Document 01, "The deck": the seven lines, each a letter and a list of field kinds.
use Rattle.std.specs.Prelude.{Bool, true, ◌&&◌, List, [], ◌∷◌, ◌++◌, ℕ, ◌+◌, eqb}
use Rattle.std.proofs.Math.Option.{Option, none, some}
use Rattle.rules.specs.Words.{when◌then◌else◌}
use Rattle.rules.specs.Ranges.{Range, inside, losses, unit_level, coefficient_a, coefficient_b, coefficient_c, heat_rate, energy, purchase_rate, sequence, type, block, basis_mwh, percent}
use Rattle.rules.specs.Fields.{Field, got, malformed, on_field, byte, byte_at, digits, escape, Place, Chars, chars_at, is_label, spaced_number, spaced_label, spaced_basis, basis_text}
use Rattle.rules.specs.declared.Basis.{Basis}
use Rattle.rules.specs.declared.Basis.TheVariants.{Low, Generation, Mwh}

-- a number of a range, a basis whose number is of a range, or a label
pub data Kind : Type 0 where
  number basis : Range → Kind
  label : Kind

-- the lines' letters
pub data Letter : Type 0 where
  H U P F T D E : Letter

-- "fields after the letter"
abbrev pub fields_of : Letter → List Kind
fields_of H = number losses ∷ []
fields_of U =
    number unit_level ∷ number unit_level ∷ number unit_level ∷ number unit_level ∷ number unit_level ∷ number unit_level ∷
    number coefficient_a ∷ number coefficient_b ∷ number coefficient_c ∷ number heat_rate ∷ label ∷ []
fields_of P = number energy ∷ number purchase_rate ∷ label ∷ []
fields_of F = number energy ∷ label ∷ []
fields_of T = number sequence ∷ number type ∷ number block ∷ number energy ∷ label ∷ []
fields_of D = basis basis_mwh ∷ number percent ∷ label ∷ label ∷ []
fields_of E = []

-- the values of fields, one after another, a label as an L
abbrev pub Fields : Type 0 → List Kind → Type 0
Fields L [] = Unit {0}
Fields L (number x ∷ ks) = ℕ × Fields L ks
Fields L (basis x ∷ ks) = Basis × Fields L ks
Fields L (label ∷ ks) = L × Fields L ks

abbrev pub push : {A B : Type 0} → A → Field B → Field (A × B)
push a (got b next) = got (a, b) next
push a malformed = malformed

-- the fields from a place on, with where each label stands
unfoldable pub fields_at : (ks : List Kind) → List ℕ → ℕ → Field (Fields Place ks)
fields_at [] s at = got tt at
fields_at (number x ∷ ks) s at = on_field (spaced_number s at) λ v next. push v (fields_at ks s next)
fields_at (basis x ∷ ks) s at = on_field (spaced_basis s at) λ v next. push v (fields_at ks s next)
fields_at (label ∷ ks) s at = on_field (spaced_label s at) λ v next. push v (fields_at ks s next)

-- the same fields with each label's characters
unfoldable pub seen : (ks : List Kind) → List ℕ → Fields Place ks → Fields Chars ks
seen [] s v = tt
seen (number x ∷ ks) s v = (v.0, seen ks s v.1)
seen (basis x ∷ ks) s v = (v.0, seen ks s v.1)
seen (label ∷ ks) s v = (chars_at s v.0, seen ks s v.1)

-- the fields' text, and the rest after it
unfoldable pub written : (ks : List Kind) → Fields Chars ks → List ℕ → List ℕ
written [] v rest = rest
written (number x ∷ ks) v rest = 32 ∷ digits v.0 ++ written ks v.1 rest
written (basis x ∷ ks) v rest = 32 ∷ basis_text v.0 ++ written ks v.1 rest
written (label ∷ ks) v rest = 32 ∷ 34 ∷ escape v.0 ++ (34 ∷ written ks v.1 rest)

abbrev pub basis_inside : Range → Basis → Bool
basis_inside x Low = true
basis_inside x Generation = true
basis_inside x (Mwh v) = inside x v

-- whether every number is inside its range (3)
unfoldable pub ranged : (ks : List Kind) → Fields Chars ks → Bool
ranged [] v = true
ranged (number x ∷ ks) v = inside x v.0 && ranged ks v.1
ranged (basis x ∷ ks) v = basis_inside x v.0 && ranged ks v.1
ranged (label ∷ ks) v = ranged ks v.1

-- whether every label is one
unfoldable pub labelled : (ks : List Kind) → Fields Chars ks → Bool
labelled [] v = true
labelled (number x ∷ ks) v = labelled ks v.1
labelled (basis x ∷ ks) v = labelled ks v.1
labelled (label ∷ ks) v = is_label v.0 && labelled ks v.1

abbrev pub byte_of : Letter → ℕ
byte_of H = 72
byte_of U = 85
byte_of P = 80
byte_of F = 70
byte_of T = 84
byte_of D = 68
byte_of E = 69

unfoldable pub letter_of : ℕ → Option Letter
letter_of b =
    when eqb b 72 then some H else
    when eqb b 85 then some U else
    when eqb b 80 then some P else
    when eqb b 70 then some F else
    when eqb b 84 then some T else
    when eqb b 68 then some D else
    when eqb b 69 then some E else none

-- a line: its letter and its fields
pub record Line : Type 0 where
  pub letter : Letter
  pub fields : Fields Chars (fields_of letter)

abbrev pub line : (l : Letter) → Fields Chars (fields_of l) → Line
line l v = record { letter = l; fields = v }

-- after its letter: the fields with where each label stands, and "Each line ends in LF (10)"
unfoldable pub places_at : List ℕ → ℕ → (l : Letter) → Field (Fields Place (fields_of l))
places_at s at l =
    on_field (fields_at (fields_of l) s at) λ v p.
    on_field (byte_at s p 10) λ u next.
    got v next

abbrev pub line_from : List ℕ → ℕ → Option Letter → Field Line
line_from s at none = malformed
line_from s at (some l) = on_field (places_at s at l) λ v next. got (line l (seen (fields_of l) s v)) next

-- the line from a place on, and where the next one starts
unfoldable pub line_at : List ℕ → ℕ → Field Line
line_at s at = line_from s (at + 1) (letter_of (byte s at))

-- a line's text, and the rest after it
unfoldable pub line_text : Line → List ℕ → List ℕ
line_text l rest = byte_of l.letter ∷ written (fields_of l.letter) l.fields (10 ∷ rest)
