-- What the readers answer where the rules find a field: each number is cut at 1,000,000, which is above every range.
use Rattle.std.specs.Prelude.{◌≡◌, List, ℕ, ◌≤◌, min, drop, Option, Some, None}
use Rattle.std.proofs.Math.Option as math
use Rattle.std.proofs.Math.Option.{none, some}
use Rattle.rules.specs.Fields.{Field, got, malformed, run, Place}
use Rattle.rules.specs.declared.Basis.{Basis}
use Rattle.rules.specs.declared.Basis.TheVariants.{Low, Generation, Mwh}
use Rattle.read_fields.specs.declared.Place as answered

-- a field that was read, told by its value and the place after it
abbrev pub told_as : {A B : Type 0} → (A → ℕ → B) → Field A → Option B
told_as f (got v next) = Some (f v next)
told_as f malformed = None

abbrev pub cut : ℕ → ℕ
cut v = min v 1_000_000

abbrev pub step_of : Field (Unit {0}) → Option ℕ
step_of f = told_as (λ u next. next) f

-- a digit from which all of the number is read on
abbrev pub DigitOf : List ℕ → Field ℕ → Option (ℕ × ℕ) → Type 0
DigitOf s f (Some (d, next)) = (d ≤ 9) × (run d next (drop next s) ≡ f)
DigitOf s f None = malformed ≡ f

-- a number, cut at the most that can be told
abbrev pub number_cut : ℕ → Field ℕ → Option (ℕ × ℕ)
number_cut most f = told_as (λ v next. (min v most, next)) f

abbrev pub number_field : Field ℕ → Option (ℕ × ℕ)
number_field f = number_cut 1_000_000 f

abbrev pub cut_basis : Basis → Basis
cut_basis Low = Low
cut_basis Generation = Generation
cut_basis (Mwh v) = Mwh (cut v)

abbrev pub basis_field : Field Basis → Option (Basis × ℕ)
basis_field f = told_as (λ x next. (cut_basis x, next)) f

abbrev pub end_of : math.Option ℕ → Option ℕ
end_of (some z) = Some z
end_of none = None

-- a place as the readers have it
abbrev pub place_of : Place → answered.Place
place_of p = record { from = p.from; upto = p.upto }

abbrev pub label_field : Field Place → Option (answered.Place × ℕ)
label_field f = told_as (λ p next. (place_of p, next)) f
