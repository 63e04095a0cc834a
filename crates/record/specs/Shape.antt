-- A label with its padding, and a blank entry, as tests.
use Rattle.std.specs.Prelude.{Bool, true, false, ◌&&◌, ℕ, leb, ltb, eqb, length, get_or}
use Rattle.rules.specs.Words.{all_to}
use Rattle.rules.specs.Fields.{is_character}
use Rattle.rules.specs.declared.Label.{Label}
use Rattle.rules.specs.declared.Plant.{Plant}
use Rattle.rules.specs.declared.Plant.TheVariants.{Unit as U, Purchase as P, Fixed as F}
use Rattle.rules.specs.declared.Basis.{Basis}
use Rattle.rules.specs.declared.Basis.TheVariants.{Low, Generation, Mwh}
use Rattle.rules.specs.declared.Source.{Source}
use Rattle.rules.specs.declared.Delivery.{Delivery}
use Rattle.rules.specs.declared.Direct.{Direct}

-- Labels.

-- a character inside a label, a zero after it
abbrev pub own_byte : Bool → ℕ → Bool
own_byte true b = is_character b
own_byte false b = eqb b 0

abbrev pub padded_to : Label → ℕ → Bool
padded_to l n = all_to (λ i. own_byte (ltb i l.len) (get_or l.bytes i 0)) n

-- sixteen bytes
unfoldable pub padded : Label → Bool
padded l = eqb (length l.bytes) 16 && padded_to l 16

unfoldable pub own_label : Label → Bool
own_label l = leb 1 l.len && (leb l.len 16 && padded l)

unfoldable pub blank_label : Label → Bool
blank_label l = eqb l.len 0 && padded l

-- Blanks.

abbrev pub blank_plant : Plant → Bool
blank_plant (U u) = false
blank_plant (P g rate) = false
blank_plant (F g) = eqb g 0

unfoldable pub source_blank : Source → Bool
source_blank x = blank_plant x.plant && blank_label x.label

unfoldable pub delivery_blank : Delivery → Bool
delivery_blank x = eqb x.sequence.0 0 && (eqb x.kind 0 && (eqb x.block 0 && (eqb x.mwh 0 && blank_label x.label)))

abbrev pub blank_basis : Basis → Bool
blank_basis Low = true
blank_basis Generation = false
blank_basis (Mwh v) = false

unfoldable pub direct_blank : Direct → Bool
direct_blank x = blank_basis x.basis && (eqb x.percent 0 && (eqb x.source 0 && eqb x.delivery 0))
