-- What the line readers answer where the rules find a line after its letter: each number is cut.
use Rattle.std.specs.Prelude.{List, [], ◌∷◌, ℕ, Option}
use Rattle.rules.specs.Fields.{Field, Place}
use Rattle.rules.specs.Lines.{Kind, number, basis, label, Letter, H, U, P, F, T, D, Fields, fields_of}
use Rattle.read_fields.specs.Answers.{told_as, cut, cut_basis, place_of}
use Rattle.read_lines.specs.declared.HeadLine.{HeadLine}
use Rattle.read_lines.specs.declared.UnitLine.{UnitLine}
use Rattle.read_lines.specs.declared.PurchaseLine.{PurchaseLine}
use Rattle.read_lines.specs.declared.FixedLine.{FixedLine}
use Rattle.read_lines.specs.declared.DeliveryLine.{DeliveryLine}
use Rattle.read_lines.specs.declared.DirectLine.{DirectLine}

-- fields with each number cut
abbrev pub cut_fields : (ks : List Kind) → Fields Place ks → Fields Place ks
cut_fields [] v = tt
cut_fields (number x ∷ ks) v = (cut v.0, cut_fields ks v.1)
cut_fields (basis x ∷ ks) v = (cut_basis v.0, cut_fields ks v.1)
cut_fields (label ∷ ks) v = (v.0, cut_fields ks v.1)

-- a line that was read, made of its fields with each number cut, and of the place after it
abbrev pub line_as : {R : Type 0} → (l : Letter) → (Fields Place (fields_of l) → ℕ → R) → Field (Fields Place (fields_of l)) → Option R
line_as l made f = told_as (λ v next. made (cut_fields (fields_of l) v) next) f

-- What each line is made of.

abbrev pub head_of : Fields Place (fields_of H) → ℕ → HeadLine
head_of (losses, _) next = record { losses = losses; next = next }

abbrev pub unit_of : Fields Place (fields_of U) → ℕ → UnitLine
unit_of (g, (h, (n, (o, (e, (k, (a, (b, (c, (r, (name, _))))))))))) next =
    record { numbers = record { g = g; h = h; n = n; o = o; e = e; k = k; a = a; b = b; c = c; r = r }; label = place_of name; next = next }

abbrev pub purchase_of : Fields Place (fields_of P) → ℕ → PurchaseLine
purchase_of (g, (rate, (name, _))) next = record { g = g; rate = rate; label = place_of name; next = next }

abbrev pub fixed_of : Fields Place (fields_of F) → ℕ → FixedLine
fixed_of (g, (name, _)) next = record { g = g; label = place_of name; next = next }

abbrev pub delivery_of : Fields Place (fields_of T) → ℕ → DeliveryLine
delivery_of (sequence, (kind, (block, (mwh, (name, _))))) next =
    record { sequence = sequence; kind = kind; block = block; mwh = mwh; label = place_of name; next = next }

abbrev pub direct_of : Fields Place (fields_of D) → ℕ → DirectLine
direct_of (x, (percent, (unit, (delivery, _)))) next =
    record { basis = x; percent = percent; unit = place_of unit; delivery = place_of delivery; next = next }

-- The readers' answers.

abbrev pub head_line : Field (Fields Place (fields_of H)) → Option HeadLine
head_line f = line_as H head_of f

abbrev pub unit_line : Field (Fields Place (fields_of U)) → Option UnitLine
unit_line f = line_as U unit_of f

abbrev pub purchase_line : Field (Fields Place (fields_of P)) → Option PurchaseLine
purchase_line f = line_as P purchase_of f

abbrev pub fixed_line : Field (Fields Place (fields_of F)) → Option FixedLine
fixed_line f = line_as F fixed_of f

abbrev pub delivery_line : Field (Fields Place (fields_of T)) → Option DeliveryLine
delivery_line f = line_as T delivery_of f

abbrev pub direct_line : Field (Fields Place (fields_of D)) → Option DirectLine
direct_line f = line_as D direct_of f
