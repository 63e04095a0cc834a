-- What rules' Calls and Places say of a label, by the class whose label it is.
use Rattle.std.specs.Prelude.{List, ℕ}
use Rattle.rules.specs.Calls.{source_part, delivery_part}
use Rattle.rules.specs.Places.{source_start, delivery_start, source_place, delivery_place}
use Rattle.label_places.specs.declared.Class.{Class}
use Rattle.label_places.specs.declared.Class.TheVariants.{Source, Delivery}

abbrev pub part_of : Class → List ℕ → ℕ → List ℕ
part_of Source s i = source_part s i
part_of Delivery s j = delivery_part s j

abbrev pub start_of : Class → List ℕ → ℕ → ℕ
start_of Source s i = source_start s i
start_of Delivery s j = delivery_start s j

abbrev pub place_of : Class → List ℕ → ℕ → ℕ
place_of Source s i = source_place s i
place_of Delivery s j = delivery_place s j
