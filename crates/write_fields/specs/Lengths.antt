-- How many digits a number has.
use Rattle.std.specs.Prelude.{◌≡◌, refl, Bool, true, false, [], ◌∷◌, ◌++◌, ℕ, zero, suc, ◌+◌, ◌*◌, ◌/◌, ◌%◌, ◌^◌, ◌≤◌, ◌<◌, ltb, length}
use Rattle.std.proofs.Common.{ap, ◌∙◌, add-one, arith, length-append}
use Rattle.std.proofs.Math.Decide.{dec_lt}
use Rattle.rules.specs.Words.{when◌then◌else◌}
use Rattle.rules.specs.Fields as fields
use Rattle.rules.specs.Fields.{digits_in, digits}
use Rattle.roundtrip.specs.Numbers.{digits_one, digits_more}

digits_in_few : (f v : ℕ) → length (digits_in f v) ≤ f
unfolding fields.digits_in
digits_in_few zero v = omega arith
digits_in_few (suc f) v = go (ltb v 10) (digits_in_few f (v / 10))
  where
    go : (p : Bool) → length (digits_in f (v / 10)) ≤ f → length (when p then (48 + v) ∷ [] else digits_in f (v / 10) ++ ((48 + v % 10) ∷ [])) ≤ suc f
    go true h = omega arith
    go false h = omega (arith, length-append (digits_in f (v / 10)) ((48 + v % 10) ∷ []))

pub digits_few : (v : ℕ) → length (digits v) ≤ 20
unfolding fields.digits
digits_few v = digits_in_few 20 v

-- the powers of ten
unfoldable pub tens : ℕ → ℕ
tens zero = 1
tens (suc n) = tens n * 10

tens_some : (n : ℕ) → 1 ≤ tens n
unfolding tens
tens_some zero = omega arith
tens_some (suc n) = omega (arith, tens_some n)

length_one : (v : ℕ) → v < 10 → ◌≡◌ {A = ℕ} (length (digits v)) 1
length_one v h = ap length (digits_one v h)

length_more : (v : ℕ) → 10 ≤ v → v < 2 ^ 64 → length (digits v) ≡ length (digits (v / 10)) + 1
length_more v h b = ap length (digits_more v h b) ∙ length-append (digits (v / 10)) ((48 + v % 10) ∷ [])

-- there is a digit
pub digits_some : (v : ℕ) → v < 2 ^ 64 → 1 ≤ length (digits v)
digits_some v b = elim (dec_lt v 10) [
  | yes l ↦ omega (arith, length_one v l)
  | no l ↦ omega (arith, length_more v (omega arith) b)
]

-- n powers from 1 on that are not above a tenth, and then one that is
pub digits_over : (n v : ℕ) → v < 2 ^ 64 → tens n ≤ v / 10 → n + 2 ≤ length (digits v)
unfolding tens
digits_over zero v b h = omega (arith, length_more v (omega arith) b, digits_some (v / 10) (omega arith))
digits_over (suc n) v b h = omega (arith, length_more v (omega (arith, tens_some n)) b, digits_over n (v / 10) (omega arith) (omega arith))

pub digits_under : (n v : ℕ) → v < 2 ^ 64 → v / 10 < tens n → length (digits v) ≤ n + 1
unfolding tens
digits_under zero v b h = omega (arith, length_one v (omega arith))
digits_under (suc n) v b h = elim (dec_lt v 10) [
  | yes l ↦ omega (arith, length_one v l)
  | no l ↦ omega (arith, length_more v (omega arith) b, digits_under n (v / 10) (omega arith) (omega arith))
]

pub tens_more : (n : ℕ) → tens n * 10 ≡ tens (n + 1)
unfolding tens
tens_more n = rw add-one

pub tens_none : ◌≡◌ {A = ℕ} 1 (tens 0)
unfolding tens
tens_none = refl
