-- The texts of signed numbers, each after a byte that leads it.
use Rattle.std.specs.Prelude.{◌≡◌, List, [], ◌∷◌, ◌++◌, length, get_or, ℤ, pos, negsuc}
use Rattle.std.proofs.Math.Path.{refl}
use Rattle.std.proofs.Common.{ap, arith, length-append}
use Prim.Native.Nat.{ℕ, zero, suc, ◌*◌, ◌≤◌, ◌<◌}
use Rattle.rules.specs.Fields as fields
use Rattle.rules.specs.Report.{signed_text}
use Rattle.write_fields.specs.Inked as inked
use Rattle.write_fields.specs.Inked.{Text, Front, front_list, up_to, up_to_same, up_to_first, front_up_to}
use Rattle.write_fields.specs.Lengths.{digits_few}

-- a byte and a signed number
abbrev pub signed_after : ℕ → ℤ → Text
signed_after b z rest = b ∷ signed_text z ++ rest

-- the amount at an index of a list, after its byte; and all of them
abbrev pub amount_at : ℕ → List ℤ → ℕ → Text
amount_at b zs i = signed_after b (get_or zs i (pos 0))

abbrev pub amounts_after : ℕ → List ℤ → Text
amounts_after b zs = up_to (amount_at b zs) (length zs)

-- how many bytes they have, whatever leads them
abbrev pub signed_size : ℤ → ℕ
signed_size z = length (signed_after 0 z [])

abbrev pub amounts_size : List ℤ → ℕ
amounts_size zs = length (amounts_after 0 zs [])

-- n amounts of 0
abbrev pub zeros_after : ℕ → ℕ → Text
zeros_after b n = up_to (λ i rest. b ∷ 48 ∷ rest) n

-- each amount is 0
abbrev pub AllZero : List ℤ → Type 0
AllZero zs = (k : ℕ) → k < length zs → get_or zs k (pos 0) ≡ pos 0

-- The rest stands after each.

pub front_signed : (b : ℕ) (z : ℤ) → Front (signed_after b z)
front_signed b z = front_list (b ∷ signed_text z)

front_some : (b : ℕ) (zs : List ℤ) (n : ℕ) → Front (up_to (amount_at b zs) n)
front_some b zs = front_up_to (amount_at b zs) (λ i. front_signed b (get_or zs i (pos 0)))

pub front_amounts : (b : ℕ) (zs : List ℤ) → Front (amounts_after b zs)
front_amounts b zs = front_some b zs (length zs)

-- Amounts after a byte.

-- the first by itself
pub amounts_first : (b : ℕ) (z : ℤ) (zs : List ℤ) (rest : List ℕ) → amounts_after b (z ∷ zs) rest ≡ signed_after b z (amounts_after b zs rest)
amounts_first b z zs rest = up_to_first (amount_at b (z ∷ zs)) (length zs) rest

module _ (b : ℕ) (zs : List ℤ) where
  sizes : (n : ℕ) → length (up_to (amount_at b zs) n []) ≡ length (up_to (amount_at 0 zs) n [])
  unfolding inked.up_to
  sizes zero = refl
  sizes (suc n) = omega (arith, sizes n, (front_some b zs n).longer (amount_at b zs n []), (front_some 0 zs n).longer (amount_at 0 zs n []))

  pub amounts_size_lem : length (amounts_after b zs []) ≡ amounts_size zs
  amounts_size_lem = sizes (length zs)

  -- all of them 0
  pub amounts_zero : AllZero zs → (rest : List ℕ) → zeros_after b (length zs) rest ≡ amounts_after b zs rest
  unfolding fields.digits fields.digits_in
  amounts_zero zeros = up_to_same (λ i rest. b ∷ 48 ∷ rest) (amount_at b zs) (length zs) (λ i l rest. rw (zeros i l))

-- no number has more than 22 bytes with the one that leads it
signed_most : (z : ℤ) → length (signed_text z) ≤ 21
signed_most (pos n) = omega (arith, digits_few n)
signed_most (negsuc n) = omega (arith, digits_few (suc n))

pub amounts_most : (zs : List ℤ) → amounts_size zs ≤ length zs * 22
unfolding inked.up_to
amounts_most [] = omega arith
amounts_most (z ∷ zs) =
    omega (arith, ap length (amounts_first 0 z zs []), length-append (signed_text z) (amounts_after 0 zs []), signed_most z, amounts_most zs)
