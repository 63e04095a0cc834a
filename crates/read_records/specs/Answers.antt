-- What the readers' answers say, in the words of the rules' fields.
use Rattle.std.specs.Prelude.{false, List, [], ◌∷◌, ℕ, ◌<◌, ℤ, drop, Option, Some, None}
use Rattle.rules.specs.Words.{when◌then◌else◌}
use Rattle.rules.specs.Fields.{Field, got, malformed, on_field, Chars, is_label}
use Rattle.rules.specs.Record.{chars}
use Rattle.rules.specs.Report.{ReportLine, hour, pair, internal, end}
use Rattle.rules.specs.Spreadsheet.{pushed, quoted}
use Rattle.rules.specs.declared.Label.{Label}
use Rattle.read_records.specs.declared.Record.{Record}
use Rattle.read_records.specs.declared.Record.TheVariants.{Hour, Delivery, Internal, End}

abbrev pub NonZero : List ℕ → Type 0
NonZero [] = Unit {0}
NonZero (b ∷ t) = (0 < b) × NonZero t

abbrev pub passed : Option ℕ → Field (Unit {0})
passed (Some next) = got tt next
passed None = malformed

-- the field that an answer says, of what f makes of its value
abbrev pub said_as : {A B : Type 0} → (A → B) → Option (A × ℕ) → Field B
said_as f (Some (x, next)) = got (f x) next
said_as f None = malformed

abbrev pub signed_field : Option (ℤ × ℕ) → Field ℤ
signed_field r = said_as (λ z. z) r

-- a label's characters from the next one on
abbrev pub character_then : List ℕ → Option (Option ℕ × ℕ) → Field Chars
character_then s (Some (Some c, next)) = pushed c (quoted false next (drop next s))
character_then s (Some (None, next)) = got [] next
character_then s None = malformed

abbrev pub label_field : Option (Label × ℕ) → Field Chars
label_field r = said_as chars r

-- characters that are a label's
abbrev pub judged : Field Chars → Field Chars
judged f = on_field f λ cs next. when is_label cs then got cs next else malformed

abbrev pub amounts_field : Option (List ℤ × ℕ) → Field (List ℤ)
amounts_field r = said_as (λ zs. zs) r

-- the line of a record, by the fields that its kind has
abbrev pub line_of : Record → ReportLine
line_of (Hour amounts) = hour amounts
line_of (Delivery delivery number source amounts) = pair (chars delivery) number (chars source) amounts
line_of (Internal source amounts) = internal (chars source) amounts
line_of End = end

abbrev pub field_of : Option (Record × ℕ) → Field ReportLine
field_of r = said_as line_of r
